-- What is printed after an order's number: 0 and the values of its answer, or the refusal's number.
use Rattle.std.specs.Prelude.{ℕ, List, [], ◌∷◌, Ok, Err, Result}
use Rattle.refusals.specs.declared.refusal.Refusal.{Refusal}
use Rattle.refusals.specs.Numbers.{number_of}
use Rattle.obey.specs.declared.phase.Reply.{Reply}
use Rattle.obey.specs.declared.phase.Reply.TheVariants.{Laid, Started}

abbrev pub values : Result Reply Refusal → List ℕ
values (Ok (Laid tray)) = 0 ∷ tray ∷ []
values (Ok Started) = 0 ∷ []
values (Err e) = number_of e ∷ []

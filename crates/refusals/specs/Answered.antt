-- What follows an answer.
use Rattle.std.specs.Prelude.{Ok, Err, Result}

-- go on with what was answered, or stop at the refusal
abbrev pub on_ok : {A B E : Type 0} → Result A E → (A → Result B E) → Result B E
on_ok (Ok a) more = more a
on_ok (Err e) more = Err e

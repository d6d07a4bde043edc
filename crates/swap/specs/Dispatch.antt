-- What the next access of a scanner does.
use Rattle.std.specs.Prelude.{ℕ, cond, Err, Result}
use Rattle.refusals.specs.declared.refusal.Refusal.{Refusal}
use Rattle.refusals.specs.declared.refusal.Refusal.TheVariants.{Torn}
use Rattle.words.specs.Words.{is_scanner}
use Rattle.memory.specs.Seen.{Seen}
use Rattle.swap_access.specs.declared.effect.Effect.{Effect}
use Rattle.swap_access.specs.declared.position.Position.{Position}
use Rattle.swap_access.specs.declared.position.Position.TheVariants.{Publish, ReadResult, Clean, PlaceMark, ReRead, TryToFail, GiveBack, Decide, FinishFirst, FinishSecond, WriteSuccess, Withdraw}
use Rattle.swap.specs.Beginnings.{at_publish, at_read_result, at_clean}
use Rattle.swap.specs.Marks.{at_place_mark, at_re_read, at_withdraw}
use Rattle.swap.specs.Results.{at_try_to_fail, at_decide, at_write_success}
use Rattle.swap.specs.Ends.{at_give_back, at_finish_first, at_finish_second}

-- the access of scanner me at each position
abbrev pub access_at : Seen → ℕ → Position → Result Effect Refusal
access_at m me (Publish d) = at_publish m d
access_at m me (ReadResult d met) = at_read_result m d met
access_at m me (Clean d met) = at_clean m d met
access_at m me (PlaceMark d) = at_place_mark m me d
access_at m me (ReRead d) = at_re_read m d
access_at m me (TryToFail d) = at_try_to_fail m d
access_at m me (GiveBack d) = at_give_back m d
access_at m me (Decide d mark placed) = at_decide m d mark placed
access_at m me (FinishFirst d winner) = at_finish_first m d winner
access_at m me (FinishSecond d winner) = at_finish_second m d winner
access_at m me (WriteSuccess d winner) = at_write_success m d
access_at m me (Withdraw d success) = at_withdraw m me d success

-- a scanner that can have no mark is torn
unfoldable pub decided : Seen → ℕ → Position → Result Effect Refusal
decided m me at = cond (is_scanner me) (access_at m me at) (Err Torn)

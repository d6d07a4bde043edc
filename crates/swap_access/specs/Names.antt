-- Each position and each end in words, as bytes. A list of names is its own statement: no law stands above it.
use Rattle.std.specs.Prelude.{ℕ, List, codes}
use Rattle.swap_access.specs.declared.position.Position.{Position}
use Rattle.swap_access.specs.declared.position.Position.TheVariants.{Publish, ReadResult, Clean, PlaceMark, ReRead, TryToFail, GiveBack, Decide, FinishFirst, FinishSecond, WriteSuccess, Withdraw}
use Rattle.swap_access.specs.declared.position.End.{End}
use Rattle.swap_access.specs.declared.position.End.TheVariants.{FirstFailed, Success, SecondFailed, Helped}

abbrev pub position_name : Position → List ℕ
position_name (Publish d) = codes "publish"
position_name (ReadResult d m) = codes "read result"
position_name (Clean d m) = codes "clean"
position_name (PlaceMark d) = codes "place mark"
position_name (ReRead d) = codes "re-read"
position_name (TryToFail d) = codes "try to fail"
position_name (GiveBack d) = codes "give back"
position_name (Decide d m x) = codes "decide"
position_name (FinishFirst d m) = codes "finish first"
position_name (FinishSecond d m) = codes "finish second"
position_name (WriteSuccess d m) = codes "write success"
position_name (Withdraw d m) = codes "withdraw"

abbrev pub end_name : End → List ℕ
end_name FirstFailed = codes "first failed"
end_name Success = codes "success"
end_name SecondFailed = codes "second failed"
end_name Helped = codes "helped"

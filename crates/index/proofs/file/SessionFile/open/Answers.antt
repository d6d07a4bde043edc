use Rattle.std.proofs.Common.{◌≡◌, true, sym, refl, ◌∙◌, arith}
use Rattle.index.specs.Index.{sound}
use Rattle.index.specs.Opened.{texts_of}
use Rattle.index.proofs.Within.{is_sound, says, sound_apart, index_cut, too_long, texts_fall}
use Rattle.index.proofs.file.SessionFile.open.Goals as goal
use Rattle.index.proofs.file.SessionFile.open.Goals.{in_default-via-in-Some+then-bytes-le-MOST+else-all_lie, in_default-via-in-Some+else-bytes-le-MOST, in_default-via-in_default}

pub returns-in-Some : goal.returns-in-Some
unfolding texts_of
returns-in-Some c =
    let file = c.args.bytes.now in
    let fits = c.in-Some.ensures.0 in
    let checked : sound file ≡ true = is_sound file (omega arith) (omega arith) (omega arith) (sym c.if-all_lie.ensures) in
    record { texts = says file checked; same = refl; apart = sound_apart file checked }

pub returns-in_default-clause-texts : goal.returns-in_default-clause-texts
returns-in_default-clause-texts c =
    elim c.in_default.branch [
      | in_default-via-in-Some+then-bytes-le-MOST+else-all_lie w ↦ texts_fall _ (sym w.all_lie.ensures ∙ w.if-all_lie.false)
      | in_default-via-in-Some+else-bytes-le-MOST w ↦ too_long _ (omega arith)
      | in_default-via-in_default w ↦ index_cut _ w.in_default.ensures
    ]

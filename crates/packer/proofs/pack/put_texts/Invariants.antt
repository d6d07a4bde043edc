-- The bytes written so far, with those of the lines that are left, are all bytes.
use Rattle.std.proofs.Common.{◌≡◌, ◌++◌, vec_items}
use Rattle.packer.specs.Lines.{lines_of}
use Rattle.packer.specs.Packed.{all_bytes}
use Rattle.packer.proofs.pack.put_texts.Given as goal

abbrev pub invariant-loop-line : goal.invariant-loop-line
invariant-loop-line l = vec_items l.file ++ all_bytes (lines_of l.line-iterator.left.now) ≡ vec_items l.initial.file ++ all_bytes (lines_of l.lines)

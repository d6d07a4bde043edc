-- What has been copied is the front of what the whole walk gives.
use Rattle.memory.specs.Lent.{seen_of}
use Rattle.walks.specs.Walked.{walked}
use Rattle.walks.proofs.Copying.{Copied}
use Rattle.walks.proofs.parcels.copy_parcels.Given as goal

abbrev pub invariant-loop-parcel : goal.invariant-loop-parcel
invariant-loop-parcel l = Copied (seen_of l.memory) (walked (seen_of l.memory) l.memory.nodes_taken l.from) l.initial.parcels l.parcel-index l.word l.parcels

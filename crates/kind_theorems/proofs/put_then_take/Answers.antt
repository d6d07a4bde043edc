use Rattle.kind_theorems.proofs.Alone.{put_then_take}
use Rattle.kind_theorems.proofs.put_then_take.Goals as goal

pub returns : goal.returns
returns g c k = put_then_take (g.K.TrayKind.plan k) (c.show_points.ensures k)

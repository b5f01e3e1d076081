-- What a device keeps true is a fact that has one proof at most, so that its type may keep it.
use Rattle.std.specs.Prelude.{Bool, false, List}
use Rattle.std.proofs.Props.{props}
use Rattle.pcm_media.specs.Images.{Content}
use Rattle.pcm_media.specs.View.{View}
use Rattle.array_shape.specs.declared.shape.Shape.{Shape}
use Rattle.write_back.specs.Shown.{entries_of}
use Rattle.write_back.specs.Props.{AreWaiting-prop}
use Rattle.write_back.specs.declared.commits.LateData.{LateData}
use Rattle.write_back.specs.Props.{AreTied-prop}
use Rattle.eaw_device.specs.declared.log.Log.{Log}
use Rattle.eaw_device.specs.Sound.{IsInOrder, IsSound, IsTold}

order-prop : (shape : Shape) (late : LateData) (logs : List Log) → IsProp (IsInOrder shape late logs)
order-prop shape late logs = Prim.hlevel (props, AreTied-prop shape late.queue.cells (entries_of late.parts) late.queue.ballots.items (λ t. false))

told-prop : (shape : Shape) (late : LateData) (content : Content) (logs : List Log) → IsProp (IsTold shape late content logs)
told-prop shape late content logs = Prim.hlevel (props, AreWaiting-prop shape late.queue content)

pub IsSound-prop : (tells : Bool) (media : View) (shape : Shape) (logs : List Log) (late : LateData) (is_dead : Bool) → IsProp (IsSound tells media shape logs late is_dead)
IsSound-prop tells media shape logs late is_dead = Prim.hlevel (props, order-prop shape late logs, told-prop shape late media.content logs)

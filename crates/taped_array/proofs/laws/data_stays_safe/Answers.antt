use Rattle.std.proofs.Common.{inl, inr, ⊎_elim, List, ℕ, refl, sym, subst}
use Rattle.array_shape.specs.declared.shape.Shape.{Shape}
use Rattle.eaw_device.specs.Opens.{Opens}
use Rattle.taped_array.specs.Shown.{store_in}
use Rattle.taped_array.proofs.laws.data_stays_safe.Goals as goal

pub returns-clause-command : goal.returns-clause-command
returns-clause-command c since datas after old new le leaves safe has image left =
    let as_new = λ (bytes : List ℕ). subst (λ (shape : Shape). Opens shape image bytes) (sym leaves.shape) in
    ⊎_elim (λ past. let found = safe image past in (found.0, as_new found.0 found.1, inr found.2))
    (λ either. ⊎_elim (λ before. ((store_in old).state.bytes, as_new _ before, inr has)) (λ later. (after, as_new _ later, inl refl)) either)
    (leaves.time.only since image le left)

pub returns-clause-piece : goal.returns-clause-piece
returns-clause-piece c since datas next old new on safe image left =
    let found = safe image ((on.same.left since image).0 left) in
    (found.0, subst (λ (shape : Shape). Opens shape image found.0) (sym on.same.shape) found.1, found.2)

pub returns-clause-device : goal.returns-clause-device
returns-clause-device c moment since datas array up le safe image left = safe image (up.durable since image le left)

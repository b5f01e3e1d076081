use Rattle.std.proofs.Common.{◌≡◌, ℕ, length, drop, ◌∙◌, sym, ap, subst, arith}
use Rattle.std.proofs.lemmas.List.Elements.{All-drop}
use Rattle.array_shape.specs.Places.{data_len}
use Rattle.array_shape.specs.Logged.{AllFit}
use Rattle.mirror.specs.Log.{IsWritePart}
use Rattle.mirror.proofs.Parts.{all_fit}
use Rattle.memory_eaw.proofs.Sound.{sound_read}
use Rattle.memory_eaw.proofs.eaw.MemoryEaw.apply_from.Goals as goal

pub apply_from-requires-clause-fit : goal.apply_from-requires-clause-fit
apply_from-requires-clause-fit c =
    let self = c.args.self.now in
    let sound = sound_read self.shape self.logs.items c.args.at c.index.result.now self.sound.logs (omega (arith, self.sound.numbers)) c.index.ensures in
    let long : length c.deref_mut.result.now ≡ data_len self.shape = ap length c.deref_mut.ensures.value ∙ self.sound.long in
    subst (λ (n : ℕ). AllFit n (drop c.args.offset c.index.result.now.parts)) (sym long)
    (all_fit self.shape (drop c.args.offset c.index.result.now.parts) (All-drop (IsWritePart self.shape) c.args.offset c.index.result.now.parts sound.placed))

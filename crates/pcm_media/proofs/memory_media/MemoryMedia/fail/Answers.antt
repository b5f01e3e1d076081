use Rattle.std.proofs.Common.{◌≡◌, List, ℕ, [], ◌∷◌, ◌++◌, Result, Ok, Err, sym, subst}
use Rattle.std.specs.Prelude.{OnOk, OnErr}
use Rattle.pcm_media.specs.Kept.{Kept}
use Rattle.pcm_media.specs.Memory.{Tells}
use Rattle.pcm_media.proofs.MemoryLemmas.{tells_listed}
use Rattle.pcm_media.proofs.memory_media.MemoryMedia.fail.Goals as goal

-- whether there was memory for the list or not
listed : {T E : Type 0} (result : Result T E) (start read : List ℕ) (old new : Kept) (nth : ℕ) → OnOk result (new ≡ record old { listed = old.listed ++ nth ∷ [] }) → OnErr result (new ≡ old)
    → Tells (record { start = start; kept = old }) read → Tells (record { start = start; kept = new }) read
listed (Ok x) start read old new nth ok err tells = subst (λ (kept : Kept). Tells (record { start = start; kept = kept }) read) (sym ok) (tells_listed start read old nth tells)
listed (Err e) start read old new nth ok err tells = subst (λ (kept : Kept). Tells (record { start = start; kept = kept }) read) (sym err) tells

pub invariant_of-self : goal.invariant_of-self
invariant_of-self c = listed c.fail.result c.self.inside.start.items c.self.inside.bytes.items c.self.inside.journal c.fail.new.self c.args.nth c.fail.ensures.ok c.fail.ensures.err c.self.invariant

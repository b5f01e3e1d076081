-- What a medium in memory that is sure not to fail promises of its next calls.
use Rattle.std.proofs.Common.{◌≡◌, ℕ, ◌+◌, List, length, Result, Ok, Err, refl, arith}
use Rattle.std.proofs.lemmas.Grind.{common_steps}
use Rattle.std.proofs.lemmas.List.{length-append}
use Rattle.std.specs.Prelude.{IsErr, IsOk, IsTrue, ◌↔◌}
use Rattle.pcm_media.specs.declared.call.Call.{Call}
use Rattle.pcm_media.specs.Kept.{Kept, Makes, HasRoom, MustFail, has_room_for}

-- a call that was promised is done, and the rest stays promised
pub keeps_promise : {T E : Type 0} (old new : Kept) (call : Call) (bytes : List ℕ) (result : Result T E) → Makes call bytes old new result → (HasRoom old (length bytes) → (IsErr result ↔ MustFail old))
    → (calls more all : ℕ) → all ≡ length bytes + more → IsTrue (has_room_for old (calls + 1) all) → IsOk result × IsTrue (has_room_for new calls more)
keeps_promise old new call bytes (Ok x) makes within calls more all sum promised = (refl, grind (arith, common_steps, makes.done, makes.listed, makes.calls_room, makes.bytes_room, makes.ticks.next, length-append))
keeps_promise old new call bytes (Err e) makes within calls more all sum promised = absurd (grind (arith, common_steps, within))

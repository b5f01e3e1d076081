-- A write that commits by itself, as what its number has logged for the moment.
use Rattle.std.proofs.Common.{◌≡◌, ℕ, Bool, ◌+◌, ◌<◌, ◌≤◌, List, [], ◌∷◌, length, get_or, set, refl, sym, ◌∙◌, ap, arith}
use Rattle.std.specs.Prelude.{IsTrue, All, flat_map, None}
use Rattle.std.proofs.lemmas.List.{length-set}
use Rattle.std.proofs.lemmas.List.Elements.{All-head, All-tail}
use Rattle.mars_base.specs.Bytes.{put}
use Rattle.array_shape.specs.declared.shape.Shape.{Shape}
use Rattle.array_shape.specs.Places.{data_len}
use Rattle.array_shape.specs.Parts.{parts_of_write}
use Rattle.array_shape.specs.Logged.{Part, applied, ranges_of, AllPlaced}
use Rattle.array_shape.proofs.Cutting.{write_parts_placed}
use Rattle.array_shape.proofs.WriteParts.{applied_write_parts}
use Rattle.eaw_face.specs.State.{listed}
use Rattle.eaw_face.specs.StoreView.{StoreView}
use Rattle.eaw_face.specs.Causes.{fit}
use Rattle.mirror.specs.Log.{Log, IsWritePart}
use Rattle.mirror.proofs.Parts.{log_is}
use Rattle.eaw_face.specs.Frame.{Group}
use Rattle.mirror.specs.Sending.{IsSendable, group_of}
use Rattle.mirror.specs.Mirroring.{IsCopy}
use Rattle.mirror.proofs.Copies.{log_here}
use Rattle.mirror.proofs.Mirrored.{group_parts}

-- a free number has logged nothing
pub free_parts : (tells : Bool) (store : StoreView) (t : ℕ) (ps : List Part) → IsCopy tells store t ps → store.ranges t ≡ None → ps ≡ []
free_parts tells store t [] copy free = refl
free_parts tells store t (p ∷ ps) copy free = let long = ap (λ (rs : List (ℕ × ℕ)). length rs) (copy.ranges ∙ ap listed free) in absurd (omega (arith, long))

all_in_place : (shape : Shape) (ps : List Part) → All (IsWritePart shape) ps → AllPlaced shape ps
all_in_place shape [] all = tt
all_in_place shape (p ∷ ps) all = (All-head (IsWritePart shape) p ps all, all_in_place shape ps (All-tail (IsWritePart shape) p ps all))

-- the parts of a write can be sent
pub write_sendable : (shape : Shape) (addr : ℕ) (bytes : List ℕ) → addr + length bytes ≤ data_len shape → fit shape [] (ranges_of (parts_of_write addr bytes)) None → IsSendable shape (parts_of_write addr bytes)
write_sendable shape addr bytes inside room = record { placed = all_in_place shape (parts_of_write addr bytes) (write_parts_placed shape addr bytes inside); room = room }

-- what was put at n is read there
pub read_back : (logs : List Log) (t n : ℕ) (log read : Log) → t < length logs → n ≡ t → read ≡ get_or (set logs n log) n read → read ≡ log
read_back logs t n log read lt is got =
    let long = length-set logs n log in
    log_is (set logs n log) n n read (omega (arith, lt, is, long)) refl got ∙ log_here logs n log (omega (arith, lt, is))

-- the data after it
pub write_data : (tells : Bool) (old new : StoreView) (t addr : ℕ) (bytes : List ℕ) (ps : List Part) → ps ≡ parts_of_write addr bytes → addr + length bytes ≤ data_len old.shape
    → (IsTrue tells → length old.state.bytes ≡ data_len old.shape) → (IsTrue tells → new.state.bytes ≡ put old.state.bytes addr bytes)
    → IsTrue tells → new.state.bytes ≡ applied (flat_map (λ (g : Group). g.parts) (group_of t ps)) old.state.bytes
write_data tells old new t addr bytes ps are inside long written told =
    written told
    ∙ sym (applied_write_parts addr bytes old.state.bytes (omega (arith, inside, long told)))
    ∙ ap (λ (qs : List Part). applied qs old.state.bytes) (sym are)
    ∙ ap (λ (qs : List Part). applied qs old.state.bytes) (sym (group_parts t ps))

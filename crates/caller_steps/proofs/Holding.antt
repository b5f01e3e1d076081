-- How many entries of the loggers callers hold when the index gains a key.
use Rattle.std.proofs.Common.{◌≡◌, ℕ, Bool, false, cond, List, [], ◌∷◌, length, filter, Option, Some, None, refl, sym, ap, subst, ◌∙◌}
use Rattle.std.specs.Prelude.{IsSome}
use Rattle.std.specs.List.{list_any}
use Rattle.std.specs.Map.{update}
use Rattle.std.proofs.lemmas.Bool.{false_from_ne_true, true≢false, false≢true, or_parts, or_from}
use Rattle.history.specs.Key.{is_same_key}
use Rattle.history.specs.declared.key.Key.{Key}
use Rattle.history.specs.Writes.{Write, is_of}
use Rattle.history.specs.Log.{log_of}
use Rattle.caller_steps.specs.State.{State, Index, calls_of}
use Rattle.caller_steps.specs.Room.{Limits, is_slot_on, held_on, GainsWithin}
use Rattle.history.proofs.Keys.{same_key, same_keys}
use Rattle.caller_steps.proofs.AtKeys.{at_other_key}

-- the key of a write has its slot on this logger
abbrev pub is_write_on : Limits → Index → ℕ → Write → Bool
is_write_on limits index g write = is_slot_on limits g (index.keys.slot_of write.0)

module _ (limits : Limits) (g : ℕ) where
  -- If a key that no write names gains a slot, the writes on a logger stay the same.
  writes_apart : (old new : Index) (key : Key) (slot : ℕ) → new.keys.slot_of ≡ update is_same_key old.keys.slot_of key (Some slot) → (writes : List Write) → list_any (is_of key) writes ≡ false
      → filter (is_write_on limits new g) writes ≡ filter (is_write_on limits old g) writes
  writes_apart old new key slot gains [] none = refl
  writes_apart old new key slot gains (write ∷ writes) none =
      let parts = or_parts (is_of key write) (list_any (is_of key) writes) none in
      let same : new.keys.slot_of write.0 ≡ old.keys.slot_of write.0 = ap (λ (f : Key → Option ℕ). f write.0) gains
      ∙ at_other_key old.keys.slot_of key (Some slot) write.0 (λ e. true≢false (sym (same_key write.0 key e) ∙ parts.0)) in
      ap (λ (s : Option ℕ). cond (is_slot_on limits g s) (write ∷ filter (is_write_on limits new g) writes) (filter (is_write_on limits new g) writes)) same
      ∙ ap (λ (l : List Write). cond (is_write_on limits old g write) (write ∷ l) l) (writes_apart old new key slot gains writes parts.1)

  -- So what a caller holds stays the same,
  pub held_apart : (old new : State) (caller : ℕ) (key : Key) → new.live ≡ old.live → GainsWithin limits key old.index new.index
      → list_any (is_of key) (log_of (calls_of old caller)).writes ≡ false → held_on limits new caller g ≡ held_on limits old caller g
  held_apart old new caller key live gains none =
      ap (λ (f : ℕ → Option _). length (filter (is_write_on limits new.index g) (log_of (calls_of (record old { live = f }) caller)).writes)) live
      ∙ ap length (writes_apart old.index new.index key old.index.keys.due gains.slot_of (log_of (calls_of old caller)).writes none)

-- the index has the key of each of these writes
abbrev pub AreNamed : Index → List Write → Type 0
AreNamed index [] = Unit {0}
AreNamed index (write ∷ writes) = IsSome (index.keys.slot_of write.0) × AreNamed index writes

-- as when the index has the key of each write but had none for this one.
pub unnamed : (index : Index) (key : Key) → index.keys.slot_of key ≡ None → (writes : List Write) → AreNamed index writes → list_any (is_of key) writes ≡ false
unnamed index key none [] named = refl
unnamed index key none (write ∷ writes) named = or_from (is_of key write) (list_any (is_of key) writes)
    (false_from_ne_true (is_of key write) (λ is. subst (λ (o : Option ℕ). IsSome o → ⊥) (sym none) (λ some. false≢true some) (subst (λ k. IsSome (index.keys.slot_of k)) (same_keys write.0 key is) named.0)))
    (unnamed index key none writes named.1)

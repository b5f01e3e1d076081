-- The logs of all numbers, and one of them that changes.
use Rattle.std.proofs.Common.{◌≡◌, ◌≢◌, ℕ, zero, suc, ◌<◌, Bool, true, false, cond, inl, inr, List, [], ◌∷◌, length, get_or, refl, sym, ◌∙◌, ap, subst, arith}
use Rattle.std.specs.Prelude.{slice_get, slice_set, slice_index, Option, Some, None, IsSome, IsTrue}
use Rattle.std.specs.Option.{option_map, option_and_then, ForSome}
use Rattle.std.proofs.lemmas.Bool.{cases_Bool, cases_eq, eq-eqb, ne_eqb, false≢true}
use Rattle.std.proofs.lemmas.List.{nil_from_length, length-set}
use Rattle.std.proofs.lemmas.Option.{slice_get_read}
use Rattle.pcm_media.specs.View.{View}
use Rattle.array_shape.specs.declared.shape.Shape.{Shape}
use Rattle.array_image.specs.Standing.{SameCells}
use Rattle.array_shape.specs.Logged.{Part, ranges_of}
use Rattle.array_image.specs.Image.{cell_of, IsGoodCell}
use Rattle.eaw_face.specs.State.{listed, with_log}
use Rattle.write_back.specs.declared.entry.Entry.{Entry}
use Rattle.eaw_device.specs.declared.log.Log.{Log}
use Rattle.write_back.specs.declared.commits.LateData.{LateData}
use Rattle.eaw_device.specs.Logs.{IsKept, IsHeld, entries_of, entries_at}
use Rattle.write_back.specs.Entries.{ranges_in, parts_in}
use Rattle.write_back.specs.Entries.{AreHeld}
use Rattle.write_back.specs.Shown.{entries_of as kept_entries}
use Rattle.write_back.specs.Tied.{IsReady}
use Rattle.eaw_device.specs.Sound.{IsInOrder, IsSure, IsSound}
use Rattle.eaw_device.proofs.LogParts.{each_held, parts_in_same}

-- the log that was looked up
pub found_log : (logs : List Log) (at t : ℕ) (log : Log) → at ≡ t → t < length logs → log ≡ get_or logs at log → slice_get logs t ≡ Some log
found_log logs at t log is lt got = ap (slice_get logs) (sym is) ∙ slice_get_read logs (length logs) at log refl (omega arith) got

pub slice_get-set_same : {X : Type 0} (xs : List X) (i : ℕ) (x : X) → i < length xs → slice_get (slice_set xs i x) i ≡ Some x
slice_get-set_same [] i x lt = absurd (omega arith)
slice_get-set_same (y ∷ ys) zero x lt = refl
slice_get-set_same (y ∷ ys) (suc i) x lt = slice_get-set_same ys i x (omega arith)

pub slice_get-set_other : {X : Type 0} (xs : List X) (i j : ℕ) (x : X) → j ≢ i → slice_get (slice_set xs i x) j ≡ slice_get xs j
slice_get-set_other [] i j x ne = refl
slice_get-set_other (y ∷ ys) zero zero x ne = absurd (ne refl)
slice_get-set_other (y ∷ ys) zero (suc j) x ne = refl
slice_get-set_other (y ∷ ys) (suc i) zero x ne = refl
slice_get-set_other (y ∷ ys) (suc i) (suc j) x ne = slice_get-set_other ys i j x (λ is. ne (ap suc is))

pub entries_live : (log : Log) → log.is_live ≡ true → entries_of log ≡ Some log.entries.items
entries_live log live = ap (λ (b : Bool). cond b (Some log.entries.items) None) live

pub entries_free : (log : Log) → log.is_live ≡ false → entries_of log ≡ None
entries_free log free = ap (λ (b : Bool). cond b (Some log.entries.items) None) free

pub entries_there : (logs : List Log) (t : ℕ) (log : Log) → slice_get logs t ≡ Some log → entries_at logs t ≡ entries_of log
entries_there logs t log there = ap (option_and_then entries_of) there

-- what a log lists
pub listed_entries : (shape : Shape) (log : Log) → IsKept shape log → listed (entries_of log) ≡ log.entries.items
listed_entries shape log kept = elim (cases_Bool log.is_live) [
  | inl live ↦ ap listed (entries_live log live)
  | inr free ↦ ap listed (entries_free log free) ∙ sym (nil_from_length log.entries.items (kept.free free))
]

pub listed_map : {A B : Type 0} (f : List A → List B) (o : Option (List A)) → f [] ≡ [] → listed (option_map f o) ≡ f (listed o)
listed_map f None none = sym none
listed_map f (Some l) none = refl

module _ (shape : Shape) (logs : List Log) (t : ℕ) (log : Log) (there : slice_get logs t ≡ Some log) (kept : IsKept shape log) where
  pub ranges_there : listed (option_map ranges_in (entries_at logs t)) ≡ ranges_in log.entries.items
  ranges_there = listed_map ranges_in (entries_at logs t) refl ∙ ap (λ (o : Option (List Entry)). ranges_in (listed o)) (entries_there logs t log there) ∙ ap ranges_in (listed_entries shape log kept)

  pub parts_there : (image : List ℕ) → listed (option_map (parts_in shape image t) (entries_at logs t)) ≡ parts_in shape image t log.entries.items
  parts_there image = listed_map (parts_in shape image t) (entries_at logs t) refl ∙ ap (λ (o : Option (List Entry)). parts_in shape image t (listed o)) (entries_there logs t log there)
      ∙ ap (parts_in shape image t) (listed_entries shape log kept)

-- a live number's log is live
pub live_there : (logs : List Log) (t : ℕ) (log : Log) → slice_get logs t ≡ Some log → IsSome (option_map ranges_in (entries_at logs t)) → log.is_live ≡ true
live_there logs t log there live = elim (cases_Bool log.is_live) [
  | inl yes' ↦ yes'
  | inr no' ↦ absurd (none (subst (λ (o : Option (List Entry)). IsSome (option_map ranges_in o)) (entries_there logs t log there ∙ entries_free log no') live))
]
  where
    none : IsSome (option_map ranges_in None) → ⊥
    none some = false≢true some

pub live_here : (logs : List Log) (t : ℕ) (log : Log) → slice_get logs t ≡ Some log → log.is_live ≡ true → IsSome (option_map ranges_in (entries_at logs t))
live_here logs t log there live = subst (λ (o : Option (List Entry)). IsSome (option_map ranges_in o)) (sym (entries_there logs t log there ∙ entries_live log live)) refl

-- one log is replaced
module _ (logs : List Log) (t : ℕ) (log : Log) (lt : t < length logs) where
  one_set : {B : Type 0} (f g : ℕ → List Entry → List B) (o : Option (List B)) → option_map (f t) (entries_of log) ≡ o
      → ((u : ℕ) → u ≢ t → option_map (f u) (entries_at logs u) ≡ option_map (g u) (entries_at logs u))
      → (u : ℕ) → option_map (f u) (entries_at (slice_set logs t log) u) ≡ with_log (λ (v : ℕ). option_map (g v) (entries_at logs v)) t o u
  one_set f g o here others u = elim (cases_eq u t) [
    | inl is ↦
        ap (λ (v : ℕ). option_map (f v) (entries_at (slice_set logs t log) v)) is
        ∙ ap (λ (l : Option Log). option_map (f t) (option_and_then entries_of l)) (slice_get-set_same logs t log lt) ∙ here
        ∙ sym (ap (λ (b : Bool). cond b o (option_map (g u) (entries_at logs u))) (eq-eqb u t is))
    | inr ne ↦
        ap (λ (l : Option Log). option_map (f u) (option_and_then entries_of l)) (slice_get-set_other logs t u log ne) ∙ others u ne
        ∙ sym (ap (λ (b : Bool). cond b o (option_map (g u) (entries_at logs u))) (ne_eqb u t ne))
  ]

  pub ranges_set : (o : Option (List (ℕ × ℕ))) → option_map ranges_in (entries_of log) ≡ o
      → (λ (u : ℕ). option_map ranges_in (entries_at (slice_set logs t log) u)) ≡ with_log (λ (u : ℕ). option_map ranges_in (entries_at logs u)) t o
  ranges_set o here = λ i u. one_set (λ v. ranges_in) (λ v. ranges_in) o here (λ v ne. refl) u i

  pub parts_set : (shape : Shape) (old new : List ℕ) (o : Option (List Part)) → option_map (parts_in shape new t) (entries_of log) ≡ o
      → ((u : ℕ) → u ≢ t → option_map (parts_in shape new u) (entries_at logs u) ≡ option_map (parts_in shape old u) (entries_at logs u))
      → (λ (u : ℕ). option_map (parts_in shape new u) (entries_at (slice_set logs t log) u)) ≡ with_log (λ (u : ℕ). option_map (parts_in shape old u) (entries_at logs u)) t o
  parts_set shape old new o here others = λ i u. one_set (λ v. parts_in shape new v) (λ v. parts_in shape old v) o here others u i

-- what holds of each log, once one is replaced
pub each_set : (logs : List Log) (t : ℕ) (log : Log) → t < length logs → (P : ℕ → Log → Type 0) → P t log → ((u : ℕ) → u ≢ t → ForSome (slice_get logs u) (P u)) → (u : ℕ) → ForSome (slice_get (slice_set logs t log) u) (P u)
each_set logs t log lt P here others u l is = elim (cases_eq u t) [
  | inl same ↦ subst (λ (p : ℕ × Log). P p.0 p.1) (λ i. (sym same i, some_same log l (sym (slice_get-set_same logs t log lt) ∙ ap (slice_get (slice_set logs t log)) (sym same) ∙ is) i)) here
  | inr ne ↦ others u ne l (sym (slice_get-set_other logs t u log ne) ∙ is)
]
  where
    some_same : (a b : Log) → Some a ≡ Some b → a ≡ b
    some_same a b is = cc

-- a log in cells that stay
module _ (shape : Shape) (old new : List ℕ) (u : ℕ) (log : Log) (kept : IsKept shape log)
    (same : (g e : ℕ) → g < shape.loggers → e < slice_index log.held g → cell_of shape new g u e ≡ cell_of shape old g u e) where
  pub parts_kept : parts_in shape new u log.entries.items ≡ parts_in shape old u log.entries.items
  parts_kept = parts_in_same shape old new u log.entries.items (each_held shape shape.in_range log (λ g c. cell_of shape new g u c ≡ cell_of shape old g u c) kept same)

  pub held_kept : IsHeld shape old u log → IsHeld shape new u log
  held_kept held = record {
    good = λ g e lt below. subst (IsGoodCell shape g) (sym (same g e lt below)) (held.good g e lt below);
    heads = ap ranges_of parts_kept ∙ held.heads;
  }

pub held_same : (shape : Shape) (old new : List ℕ) (t : ℕ) (log : Log) → t < shape.numbers → IsKept shape log → SameCells shape old new → IsHeld shape old t log → IsHeld shape new t log
held_same shape old new t log lt kept cells held = held_kept shape old new t log kept (λ g e lt' below. cells g t e lt' lt (omega (arith, below, kept.fits g lt'))) held

-- all logs of other numbers stay too
pub others_kept : (shape : Shape) (logs : List Log) (old new : List ℕ) (u : ℕ) → ForSome (slice_get logs u) (IsKept shape)
    → ((log : Log) → slice_get logs u ≡ Some log → (g e : ℕ) → g < shape.loggers → e < slice_index log.held g → cell_of shape new g u e ≡ cell_of shape old g u e)
    → option_map (parts_in shape new u) (entries_at logs u) ≡ option_map (parts_in shape old u) (entries_at logs u)
others_kept shape logs old new u kept same = by (slice_get logs u) kept same
  where
    one : (o : Option (List Entry)) → parts_in shape new u (listed o) ≡ parts_in shape old u (listed o) → option_map (parts_in shape new u) o ≡ option_map (parts_in shape old u) o
    one None is = refl
    one (Some es) is = ap (λ (ps : List Part). Some ps) is

    by : (l : Option Log) → ForSome l (IsKept shape) → ((log : Log) → l ≡ Some log → (g e : ℕ) → g < shape.loggers → e < slice_index log.held g → cell_of shape new g u e ≡ cell_of shape old g u e)
        → option_map (parts_in shape new u) (option_and_then entries_of l) ≡ option_map (parts_in shape old u) (option_and_then entries_of l)
    by None kept same = refl
    by (Some log) kept same =
        let is = listed_entries shape log (kept log refl) in
        one (entries_of log) (ap (parts_in shape new u) is ∙ parts_kept shape old new u log (kept log refl) (same log refl) ∙ sym (ap (parts_in shape old u) is))

-- a device of which one log, the medium and the queue changed
pub sound_set : (tells : Bool) (old new : View) (shape : Shape) (logs : List Log) (late late' : LateData) (is_dead : Bool) → IsSound tells old shape logs late is_dead → new.size ≡ old.size → (t : ℕ) (log : Log) → t < length logs → IsKept shape log
    → IsReady shape late' → (is_dead ≡ false → IsInOrder shape late' (slice_set logs t log)) → (IsTrue tells → is_dead ≡ false → IsSure shape late'.queue new.content) → (IsTrue tells → is_dead ≡ false → AreHeld shape new.content.bytes (kept_entries late'.parts))
    → (IsTrue tells → is_dead ≡ false → IsHeld shape new.content.bytes t log) → (IsTrue tells → is_dead ≡ false → (u : ℕ) → u ≢ t → ForSome (slice_get logs u) (IsHeld shape new.content.bytes u)) → IsSound tells new shape (slice_set logs t log) late' is_dead
sound_set tells old new shape logs late late' is_dead sound size t log lt kept ready in_order sure shown held others = record {
  shaped = sound.shaped;
  sized = size ∙ sound.sized;
  many = length-set logs t log ∙ sound.many;
  kept = each_set logs t log lt (λ u. IsKept shape) kept (λ u ne. sound.kept u);
  ready = ready;
  in_order = in_order;
  told = λ told alive. record {
    sure = sure told alive;
    shown = shown told alive;
    held = each_set logs t log lt (IsHeld shape new.content.bytes) (held told alive) (others told alive);
  };
}

-- a device of which only the medium changed
pub sound_media : (tells : Bool) (old new : View) (shape : Shape) (logs : List Log) (late : LateData) (is_dead : Bool) → IsSound tells old shape logs late is_dead → new.size ≡ old.size
    → (IsTrue tells → is_dead ≡ false → IsSure shape late.queue new.content) → (IsTrue tells → is_dead ≡ false → AreHeld shape new.content.bytes (kept_entries late.parts))
    → (IsTrue tells → is_dead ≡ false → (u : ℕ) → ForSome (slice_get logs u) (IsHeld shape new.content.bytes u)) → IsSound tells new shape logs late is_dead
sound_media tells old new shape logs late is_dead sound size sure shown held = record {
  shaped = sound.shaped;
  sized = size ∙ sound.sized;
  many = sound.many;
  kept = sound.kept;
  ready = sound.ready;
  in_order = sound.in_order;
  told = λ told alive. record { sure = sure told alive; shown = shown told alive; held = held told alive };
}

-- a device that dies: nothing is said of its queue any more
pub sound_dead : (tells : Bool) (old new : View) (shape : Shape) (logs : List Log) (late late' : LateData) (is_dead : Bool) → IsSound tells old shape logs late is_dead → new.size ≡ old.size → IsReady shape late' → IsSound tells new shape logs late' true
sound_dead tells old new shape logs late late' is_dead sound size ready = record {
  shaped = sound.shaped;
  sized = size ∙ sound.sized;
  many = sound.many;
  kept = sound.kept;
  ready = ready;
  in_order = λ alive. absurd (false≢true (sym alive));
  told = λ told alive. absurd (false≢true (sym alive));
}

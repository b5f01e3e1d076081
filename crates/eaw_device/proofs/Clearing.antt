-- The logs of a group, freed one after another.
use Rattle.std.proofs.Common.{◌≡◌, ◌≢◌, ℕ, ◌<◌, Bool, true, false, cond, ◌||◌, nat_eq, inl, inr, List, ◌∷◌, ◌++◌, length, take, drop, get_or, refl, sym, ◌∙◌, ap, subst, arith}
use Rattle.std.specs.Prelude.{slice_get, slice_set, slice_index, Option, Some, None, IsTrue}
use Rattle.std.specs.Option.{option_map, option_and_then, ForSome}
use Rattle.std.proofs.lemmas.Bool.{cases_eq, cases_Bool, ne_eqb, eq-eqb, false≢true}
use Rattle.std.proofs.lemmas.List.{length-set, take-append-le, take_all}
use Rattle.std.proofs.lemmas.Option.{slice_get_within}
use Rattle.pcm_media.specs.View.{View}
use Rattle.array_shape.specs.declared.shape.Shape.{Shape}
use Rattle.array_shape.specs.Logged.{ranges_of}
use Rattle.array_image.specs.Image.{cell_of}
use Rattle.array_image.specs.Standing.{SameCells}
use Rattle.eaw_face.specs.State.{is_one_of, with_each}
use Rattle.write_back.specs.declared.entry.Entry.{Entry}
use Rattle.eaw_device.specs.declared.log.Log.{Log}
use Rattle.write_back.specs.declared.commits.LateData.{LateData}
use Rattle.eaw_device.specs.Logs.{IsKept, IsHeld, IsCleared, entries_of, entries_at, ranges_logged, parts_logged}
use Rattle.write_back.specs.Entries.{ranges_in, parts_in, cells_on}
use Rattle.write_back.specs.Entries.{AreHeld}
use Rattle.write_back.specs.Shown.{entries_of as kept_entries}
use Rattle.write_back.specs.Tied.{IsReady, IsTied}
use Rattle.eaw_device.specs.Sound.{IsBefore, IsInOrder, IsSure, IsSound}
use Rattle.eaw_device.proofs.Keeping.{length-cells_on_kept}
use Rattle.eaw_device.proofs.Tables.{found_log, slice_get-set_same, slice_get-set_other, entries_free, others_kept, held_kept}

-- Where a loop stands that frees the numbers of a group: these are left.
pub record Clears (shape : Shape) (first now : List Log) (all left : List ℕ) : Type 0 where
  pub many : length now ≡ length first
  pub there : (t : ℕ) → is_one_of left t ≡ true → t < length first
  pub kept : (t : ℕ) → ForSome (slice_get now t) (IsKept shape)
  pub freed : (t : ℕ) → is_one_of all t ≡ true → is_one_of left t ≡ false → ForSome (slice_get now t) IsCleared
  pub others : (t : ℕ) → is_one_of all t ≡ false → slice_get now t ≡ slice_get first t
  pub within : (t : ℕ) → is_one_of left t ≡ true → is_one_of all t ≡ true

pub clears_first : (shape : Shape) (first : List Log) (all left : List ℕ) → left ≡ all → ((t : ℕ) → is_one_of all t ≡ true → t < length first) → ((t : ℕ) → ForSome (slice_get first t) (IsKept shape)) → Clears shape first first all left
clears_first shape first all left is there kept = record {
  many = refl;
  there = λ t so. there t (ap (λ (ts : List ℕ). is_one_of ts t) (sym is) ∙ so);
  kept = kept;
  freed = λ t so away. absurd (false≢true (sym away ∙ ap (λ (ts : List ℕ). is_one_of ts t) is ∙ so));
  others = λ t away. refl;
  within = λ t so. ap (λ (ts : List ℕ). is_one_of ts t) (sym is) ∙ so;
}

module _ (shape : Shape) (first now : List Log) (all left : List ℕ) (t at : ℕ) (rest : List ℕ) (is : left ≡ t ∷ rest) (at_is : at ≡ t) (stands : Clears shape first now all left) where
  here : is_one_of left t ≡ true
  here = ap (λ (ts : List ℕ). is_one_of ts t) is ∙ ap (λ (b : Bool). b || is_one_of rest t) (eq-eqb t t refl)

  pub clears_there : at < length now
  clears_there = omega (arith, stands.there t here, stands.many)

  pub clears_kept : (l : Log) → l ≡ get_or now at l → IsKept shape l
  clears_kept l got = stands.kept t l (found_log now at t l at_is (omega (arith, clears_there)) got)

  later : (u : ℕ) → is_one_of rest u ≡ true → is_one_of left u ≡ true
  later u so = ap (λ (ts : List ℕ). is_one_of ts u) is ∙ both (nat_eq u t) so
    where
      both : (b : Bool) → is_one_of rest u ≡ true → (b || is_one_of rest u) ≡ true
      both true so = refl
      both false so = so

  done : (u : ℕ) → u ≢ t → is_one_of rest u ≡ false → is_one_of left u ≡ false
  done u ne away = ap (λ (ts : List ℕ). is_one_of ts u) is ∙ (λ i. ne_eqb u t ne i || away i)

  module _ (log : Log) (kept : IsKept shape log) (cleared : IsCleared log) where
    at_t : (P : Log → Type 0) → P log → ForSome (slice_get (slice_set now at log) t) P
    at_t P p = subst (λ (o : Option Log). ForSome o P) (sym (ap (λ (k : ℕ). slice_get (slice_set now k log) t) at_is ∙ slice_get-set_same now t log (omega (arith, clears_there)))) (λ l same. subst P (some_same same) p)
      where
        some_same : {l : Log} → Some log ≡ Some l → log ≡ l
        some_same same = cc

    beside : (u : ℕ) → u ≢ t → slice_get (slice_set now at log) u ≡ slice_get now u
    beside u ne = slice_get-set_other now at u log (λ same. ne (same ∙ at_is))

    pub clears_next : Clears shape first (slice_set now at log) all rest
    clears_next = record {
      many = length-set now at log ∙ stands.many;
      there = λ u so. stands.there u (later u so);
      kept = λ u. elim (cases_eq u t) [
        | inl same ↦ subst (λ (k : ℕ). ForSome (slice_get (slice_set now at log) k) (IsKept shape)) (sym same) (at_t (IsKept shape) kept)
        | inr ne ↦ subst (λ (o : Option Log). ForSome o (IsKept shape)) (sym (beside u ne)) (stands.kept u)
      ];
      freed = λ u so away. elim (cases_eq u t) [
        | inl same ↦ subst (λ (k : ℕ). ForSome (slice_get (slice_set now at log) k) IsCleared) (sym same) (at_t IsCleared cleared)
        | inr ne ↦ subst (λ (o : Option Log). ForSome o IsCleared) (sym (beside u ne)) (stands.freed u so (done u ne away))
      ];
      others = λ u away. beside u (λ same. false≢true (sym away ∙ ap (is_one_of all) same ∙ stands.within t here)) ∙ stands.others u away;
      within = λ u so. stands.within u (later u so);
    }

-- a log without entries holds no cell
cleared_held : (shape : Shape) (image : List ℕ) (t : ℕ) (log : Log) → IsKept shape log → IsCleared log → IsHeld shape image t log
cleared_held shape image t log kept cleared = record {
  good = λ g e lt below.
      let none : length (cells_on shape g log.entries.items) ≡ 0 = ap (λ (es : List Entry). length (cells_on shape g es)) cleared.none in
      absurd (omega (arith, length-cells_on_kept shape log g kept lt, none, below));
  heads = ap (λ (es : List Entry). ranges_of (parts_in shape image t es)) cleared.none ∙ sym (ap ranges_in cleared.none);
}

-- a group was committed, and its logs are free
pub group_order : (shape : Shape) (late late' : LateData) (logs now : List Log) (ts : List ℕ) → ((t : ℕ) → ForSome (slice_get now t) (IsKept shape)) → ((t : ℕ) → is_one_of ts t ≡ true → ForSome (slice_get now t) IsCleared) → ((t : ℕ) → is_one_of ts t ≡ false → slice_get now t ≡ slice_get logs t)
    → IsInOrder shape late logs → IsTied shape late' (λ t. false) → ((t : ℕ) (its : Log) → is_one_of ts t ≡ false → IsBefore shape late.queue t its → IsBefore shape late'.queue t its) → IsInOrder shape late' now
group_order shape late late' logs now ts kept freed same order tied others = record {
  tied = tied;
  before = λ t log got. elim (cases_Bool (is_one_of ts t)) [
    | inl so ↦ (λ waits g lt. omega (arith, length-cells_on_kept shape log g (kept t log got) lt, ap (λ (es : List Entry). length (cells_on shape g es)) (freed t so log got).none))
    | inr away ↦ others t log away (order.before t log (sym (same t away) ∙ got))
  ];
}

-- The numbers of a group are free now, and the medium's cells are as they were.
module _ (tells : Bool) (old new : View) (shape : Shape) (logs now : List Log) (late late' : LateData) (is_dead : Bool) (sound : IsSound tells old shape logs late is_dead) (ts : List ℕ) (size : new.size ≡ old.size) (cells : IsTrue tells → SameCells shape old.content.bytes new.content.bytes)
    (many : length now ≡ length logs) (kept : (t : ℕ) → ForSome (slice_get now t) (IsKept shape)) (freed : (t : ℕ) → is_one_of ts t ≡ true → ForSome (slice_get now t) IsCleared) (others : (t : ℕ) → is_one_of ts t ≡ false → slice_get now t ≡ slice_get logs t) where
  same : IsTrue tells → (u : ℕ) (l : Log) → slice_get logs u ≡ Some l → (g e : ℕ) → g < shape.loggers → e < slice_index l.held g → cell_of shape new.content.bytes g u e ≡ cell_of shape old.content.bytes g u e
  same told u l is g e lt below =
      let fits = (sound.kept u l is).fits g lt in
      let small = slice_get_within logs u l is in
      cells told g u e lt (omega (arith, sound.many)) (omega arith)

  pub group_sound : IsReady shape late' → (is_dead ≡ false → IsInOrder shape late' now) → (IsTrue tells → is_dead ≡ false → IsSure shape late'.queue new.content) → (IsTrue tells → is_dead ≡ false → AreHeld shape new.content.bytes (kept_entries late'.parts)) → IsSound tells new shape now late' is_dead
  group_sound ready in_order sure shown = record {
    shaped = sound.shaped;
    sized = size ∙ sound.sized;
    many = many ∙ sound.many;
    kept = kept;
    ready = ready;
    in_order = in_order;
    told = λ told alive. record {
      sure = sure told alive;
      shown = shown told alive;
      held = λ t log got. elim (cases_Bool (is_one_of ts t)) [
        | inl so ↦ cleared_held shape new.content.bytes t log (kept t log got) (freed t so log got)
        | inr away ↦
            (let was = sym (others t away) ∙ got in
            held_kept shape old.content.bytes new.content.bytes t log (sound.kept t log was) (same told t log was) ((sound.told told alive).held t log was))
      ];
    };
  }

  gone : (t : ℕ) → is_one_of ts t ≡ true → entries_at now t ≡ None
  gone t so = go (slice_get now t) refl
    where
      go : (o : Option Log) → slice_get now t ≡ o → option_and_then entries_of o ≡ None
      go None is = refl
      go (Some log) is = entries_free log (freed t so log is).is_free

  pub group_ranges : ranges_logged now ≡ with_each (ranges_logged logs) ts None
  group_ranges = λ i t. go t (is_one_of ts t) refl i
    where
      go : (t : ℕ) (b : Bool) → is_one_of ts t ≡ b → option_map ranges_in (entries_at now t) ≡ cond b None (option_map ranges_in (entries_at logs t))
      go t true so = ap (option_map ranges_in) (gone t so)
      go t false away = ap (λ (o : Option Log). option_map ranges_in (option_and_then entries_of o)) (others t away)

  pub group_parts_logged : IsTrue tells → parts_logged shape new.content.bytes now ≡ with_each (parts_logged shape old.content.bytes logs) ts None
  group_parts_logged told = λ i t. go t (is_one_of ts t) refl i
    where
      go : (t : ℕ) (b : Bool) → is_one_of ts t ≡ b → option_map (parts_in shape new.content.bytes t) (entries_at now t) ≡ cond b None (option_map (parts_in shape old.content.bytes t) (entries_at logs t))
      go t true so = ap (option_map (parts_in shape new.content.bytes t)) (gone t so)
      go t false away = ap (λ (o : Option Log). option_map (parts_in shape new.content.bytes t) (option_and_then entries_of o)) (others t away) ∙ others_kept shape logs old.content.bytes new.content.bytes t (sound.kept t) (same told t)

-- a list that is written over a list of its length
pub written_over : (n : ℕ) (items new : List Log) → n ≡ length items → length new ≡ length items → take n (new ++ drop (length new) items) ≡ new
written_over n items new is same = take-append-le n new (drop (length new) items) (omega arith) ∙ take_all n new (omega arith)

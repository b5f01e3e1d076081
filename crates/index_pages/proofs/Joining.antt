-- Data along an insertion: what its steps make of it together.
use Rattle.std.proofs.Common.{◌≡◌, ℕ, suc, ◌+◌, ◌≤◌, inl, inr, List, Some, sym, ◌∙◌, ap, subst, arith}
use Rattle.std.proofs.lemmas.Bool.Decides.{leb_tells}
use Rattle.record_slots.specs.Places.{next_slot, next_page, slot_of, slot_due, tables_of}
use Rattle.record_slots.specs.declared.super_page.TableEntry.{TableEntry}
use Rattle.page_store.specs.Index.{Action, Index, IsTable, Grows, Rests, Gains}
use Rattle.page_store.specs.Pairs.{Pair, inserted}
use Rattle.index_pages.specs.Within.{within}
use Rattle.index_pages.proofs.Lifting.{Joins}
use Rattle.index_pages.proofs.Tabled.{root_in}

-- a table has the root that it had, if the super page has the tables that it had
pub named_kept : (old new : List ℕ) → tables_of new ≡ tables_of old → (table root : ℕ) → IsTable new table root → IsTable old table root
named_kept old new same table root named = subst (λ (ts : List TableEntry). root_in ts table ≡ Some root) same named

-- What an index makes of data does not depend on which of it is called sound, nor on what is left to be done.
pub grows_so : (up : Index) (sound so_sound : List ℕ → Type 0) (acts so_acts : List ℕ → ℕ → ℕ → List Action) (root : ℕ) (a b : List ℕ) → Grows (record up { sound = sound; actions = acts }) root a b → so_sound b → Grows (record up { sound = so_sound; actions = so_acts }) root a b
grows_so up sound so_sound acts so_acts root a b g is_sound = record {
  sound = is_sound;
  size = g.size;
  version = g.version;
  tables = g.tables;
  others = λ table other is ne. let u = g.others table other is ne in record { pairs = u.pairs; level = u.level; pages = u.pages };
  slots = g.slots;
  later = g.later;
  few = g.few;
  free_pages_fall = g.free_pages_fall;
  named = g.named;
  taken = g.taken;
  kept = g.kept;
  levels = g.levels;
}

module _ (up : Index) (most : ℕ) (acts : List ℕ → ℕ → ℕ → List Action) (root : ℕ) where
  -- an action, if so few pages are given out, and the other way round
  pub grows_within : (a b : List ℕ) → Grows up root a b → next_page b ≤ most → Grows (within up most acts) root a b
  grows_within a b g few = grows_so up up.sound (within up most acts).sound up.actions acts root a b g (g.sound, few)

  pub grows_without : (a b : List ℕ) → Grows (within up most acts) root a b → Grows up root a b
  grows_without a b g = grows_so up (within up most acts).sound up.sound acts up.actions root a b g g.sound.0

  pub gains_within : (table key : ℕ) (a b : List ℕ) → Gains up root table key a b → Gains (within up most acts) root table key a b
  gains_within table key a b g = record { pairs = g.pairs; slots = g.slots; fresh = g.fresh }

  module _ (a b c : List ℕ) (limit : most ≤ next_page a + 9) (slots_next : next_slot b ≡ next_slot a) where
    -- what is left of an insertion after the first actions
    pub grows_after : Grows up root a b → Rests up root a b → Grows (within up most acts) root b c → Grows up root a c
    grows_after first rests second = record {
      sound = second.sound.0;
      size = second.size ∙ first.size;
      version = second.version ∙ first.version;
      tables = second.tables ∙ first.tables;
      others = λ table other is ne.
          let f = first.others table other is ne in
          let s = second.others table other (named_kept b a (sym first.tables) table other is) ne in
          record {
            pairs = s.pairs ∙ f.pairs;
            level = s.level ∙ f.level;
            pages = λ x on. let p = f.pages x on in let q = s.pages x p.0 in (q.0, q.1 ∙ p.1);
          };
      slots = λ j lt ne. second.slots j (omega (arith, lt, slots_next)) (λ e. ne (e ∙ rests.due)) ∙ first.slots j lt ne;
      later = omega (arith, first.later, second.later);
      few = omega (arith, second.sound.1, limit);
      free_pages_fall = omega (arith, first.free_pages_fall, second.free_pages_fall);
      named = λ x from to. elim (leb_tells (next_page b) x) [ inl late ↦ second.named x late.1 to | inr early ↦ second.kept x (first.named x from (omega (arith, early.1))) ];
      taken = λ x free. elim (first.taken x free) [ inl still ↦ second.taken x still | inr on ↦ inr (second.kept x on) ];
      kept = λ x on. second.kept x (first.kept x on);
      levels = omega (arith, first.levels, second.levels);
    }

    pub rests_after : Rests up root a b → Rests (within up most acts) root b c → Rests up root a c
    rests_after first second = record {
      pairs = second.pairs ∙ first.pairs;
      slots = second.slots ∙ first.slots;
      due = second.due ∙ first.due;
      same = ap (λ (j : ℕ). slot_of c j) (sym first.due) ∙ second.same ∙ ap (λ (j : ℕ). slot_of b j) first.due ∙ first.same;
    }

    pub gains_after : (table key : ℕ) → Rests up root a b → Gains (within up most acts) root table key b c → Gains up root table key a c
    gains_after table key rests gains = record {
      pairs = gains.pairs ∙ ap (λ (ps : List Pair). inserted ps key (slot_due b)) rests.pairs ∙ ap (λ (s : ℕ). inserted (up.pairs a root) key s) rests.due;
      slots = gains.slots ∙ ap (λ (s : ℕ). suc s) rests.slots;
      fresh = ap (λ (s : ℕ). slot_of c s) (sym rests.due) ∙ gains.fresh;
    }

  pub joins_within : (table key : ℕ) (a b : List ℕ) → most ≤ next_page a + 9 → next_slot b ≡ next_slot a → Grows up root a b → Rests up root a b → Joins up (within up most acts) root table key a b
  joins_within table key a b limit slots first rests = record {
    grows = λ c g. grows_after a b c limit slots first rests g;
    rests = λ c r. rests_after a b c limit slots rests r;
    gains = λ c g. gains_after a b c limit slots table key rests g;
    full = λ n c f. f;
  }

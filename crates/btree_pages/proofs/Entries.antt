-- One more entry of an inner page.
use Rattle.std.proofs.Common.{◌≡◌, ℕ, zero, suc, ◌<◌, ◌≤◌, true, false, nat_lt, inl, inr, List, [], ◌∷◌, length, refl, sym, ◌∙◌, ap, subst, arith}
use Rattle.record_slots.specs.Places.{next_page}
use Rattle.std.specs.Prelude.{if◌then◌else◌}
use Rattle.std.proofs.lemmas.Bool.Decides.{nat_tests, leb_tells}
use Rattle.page_store.specs.Pairs.{Pair, inserted}
use Rattle.index_pages.specs.Page.{page_pairs}
use Rattle.btree_laws.proofs.Apart.{child_facts}
use Rattle.btree_laws.proofs.Splitting.{length-with, next_low-with}
use Rattle.btree_laws.specs.Changes.{with_entry}
use Rattle.btree_laws.specs.Descent.{child_for, page_for}
use Rattle.btree_laws.specs.Sound.{AreBelow, AreSound, IsTree}
use Rattle.btree_laws.specs.Tree.{next_low}
use Rattle.btree_pages.proofs.Descending.{child_step}
use Rattle.btree_laws.specs.declared.root.Root.{Root}

-- the place of a key in the range of key's child is right after that child's entry
pub with_inserted : (root : Root) (l : ℕ) (bytes : List ℕ) (es : List Pair) (high key mid to : ℕ) → 1 ≤ length es → AreBelow root.page (next_page bytes) es → AreSound (IsTree root l bytes) es high → next_low es high ≤ key → key < high
    → ((a b : ℕ) → IsTree root l bytes (child_for es key) a b → (a ≤ mid) × (mid < b)) → inserted es mid to ≡ with_entry es key (mid, to)
with_inserted root l bytes [] high key mid to some are sound le lt within = absurd (omega arith)
with_inserted root l bytes (e ∷ []) high key mid to some are sound le lt within =
    let w = within e.0 high sound.0 in
    let b : nat_lt mid e.0 ≡ false = grind (arith, nat_tests, w.0) in
    (rw b refl)
with_inserted root l bytes (e ∷ f ∷ es) high key mid to some are sound le lt within =
    let here = child_facts root l bytes e.1 e.0 f.0 are.0.1 sound.0 in
    elim (leb_tells (suc key) f.0) [
      | inl h ↦
          let k : nat_lt key f.0 ≡ true = h.0 in
          let is : child_for (e ∷ f ∷ es) key ≡ e.1 = (rw k refl) in
          let w = within e.0 f.0 (subst (λ (x : ℕ). IsTree root l bytes x e.0 f.0) (let back : e.1 ≡ child_for (e ∷ f ∷ es) key = (rw k refl) in back) sound.0) in
          let b : nat_lt mid e.0 ≡ false = grind (arith, nat_tests, w.0) in
          let b' : nat_lt mid f.0 ≡ true = grind (arith, nat_tests, w.1) in
          rw (k, b, b') refl
      | inr h ↦
          let k : nat_lt key f.0 ≡ false = h.0 in
          let back : child_for (f ∷ es) key ≡ child_for (e ∷ f ∷ es) key = (rw k refl) in
          let from : f.0 ≤ key = omega (arith, h.1) in
          let child = child_step root l bytes (f ∷ es) high key (omega arith) are.2 sound.1 from lt in
          let within' = λ (a b : ℕ) (t : IsTree root l bytes (child_for (f ∷ es) key) a b). within a b (subst (λ (x : ℕ). IsTree root l bytes x a b) back t) in
          let w = within' child.from child.to child.tree in
          let b : nat_lt mid e.0 ≡ false = grind (arith, nat_tests, w.0, child.above, here.1) in
          rw (k, b) (ap (λ (l : List Pair). e ∷ l) (with_inserted root l bytes (f ∷ es) high key mid to (omega arith) are.2 sound.1 from lt within'))
    ]

-- from the second entry's low key on, the first entry plays no part
child_behind : (e : Pair) (es : List Pair) (key : ℕ) → 1 ≤ length es → next_low es key ≤ key → child_for (e ∷ es) key ≡ child_for es key
child_behind e [] key some le = absurd (omega arith)
child_behind e (f ∷ es) key some le = let b : nat_lt key f.0 ≡ false = grind (arith, nat_tests, le) in (rw b refl)

-- with one more entry, the key's child is the old one or the new one
pub entry_child : (es : List Pair) (key mid to : ℕ) → 1 ≤ length es → child_for (with_entry es key (mid, to)) key ≡ (if nat_lt key mid then child_for es key else to)
entry_child [] key mid to some = absurd (omega arith)
entry_child (e ∷ []) key mid to some = refl
entry_child (e ∷ f ∷ es) key mid to some = elim (leb_tells (suc key) f.0) [
  | inl h ↦
      let k : nat_lt key f.0 ≡ true = h.0 in
      let step : with_entry (e ∷ f ∷ es) key (mid, to) ≡ e ∷ (mid, to) ∷ f ∷ es = (rw k refl) in
      let inner : child_for ((mid, to) ∷ f ∷ es) key ≡ to = (rw k refl) in
      let here : child_for (e ∷ f ∷ es) key ≡ e.1 = (rw k refl) in
      ap (λ (ps : List Pair). child_for ps key) step ∙ ap (λ (x : ℕ). if nat_lt key mid then e.1 else x) inner ∙ ap (λ (x : ℕ). if nat_lt key mid then x else to) (sym here)
  | inr h ↦
      let k : nat_lt key f.0 ≡ false = h.0 in
      let step : with_entry (e ∷ f ∷ es) key (mid, to) ≡ e ∷ with_entry (f ∷ es) key (mid, to) = (rw k refl) in
      let here : child_for (e ∷ f ∷ es) key ≡ child_for (f ∷ es) key = (rw k refl) in
      let w : child_for (e ∷ with_entry (f ∷ es) key (mid, to)) key ≡ child_for (with_entry (f ∷ es) key (mid, to)) key =
      child_behind e (with_entry (f ∷ es) key (mid, to)) key (omega (arith, length-with (f ∷ es) key (mid, to) (omega arith))) (omega (arith, next_low-with (f ∷ es) key key (mid, to), h.1)) in
      ap (λ (ps : List Pair). child_for ps key) step ∙ w ∙ entry_child (f ∷ es) key mid to (omega arith) ∙ ap (λ (x : ℕ). if nat_lt key mid then x else to) (sym here)
]

-- one level further down
pub page_for_last : (d : ℕ) (bytes : List ℕ) (page key : ℕ) → page_for (suc d) bytes page key ≡ child_for (page_pairs bytes (page_for d bytes page key)) key
page_for_last zero bytes page key = refl
page_for_last (suc d) bytes page key = page_for_last d bytes (child_for (page_pairs bytes page) key) key

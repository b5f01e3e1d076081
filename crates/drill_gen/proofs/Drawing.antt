-- A script that goes on by one transaction or by two.
use Rattle.std.proofs.Common.{◌≡◌, ℕ, suc, ◌+◌, ◌-◌, ◌<◌, ◌≤◌, Bool, true, false, List, ◌++◌, sym, ap, ◌∙◌, arith}
use Rattle.std.specs.Prelude.{nat_le}
use Rattle.std.proofs.lemmas.Bool.{le-leb}
use Rattle.std.proofs.lemmas.Bool.Decides.{nat_tests}
use Rattle.std.proofs.lemmas.List.{append_assoc, append-nil}
use Rattle.history.specs.declared.call.Call.{Call}
use Rattle.drill_gen.specs.Draws.{drawn_on}
use Rattle.drill_gen.specs.Drill.{drawn_from, alone, paired, in_turn, drill}

single_on : (x left n : ℕ) → left ≡ n + 1 → in_turn false x left ≡ alone (drawn_from x) ++ in_turn false (drawn_on x 5) n
single_on x left n is = ap (in_turn false x) (let e : left ≡ suc n = omega (arith, is) in e)

pair_on : (x left n : ℕ) → left ≡ n + 2 → in_turn true x left ≡ paired (drawn_from x) (drawn_from (drawn_on x 5)) ++ in_turn true (drawn_on x 10) n
pair_on x left n is = ap (in_turn true x) (let e : left ≡ suc (suc n) = omega (arith, is) in e)

module _ (count : ℕ) (turns next whole : List (ℕ × Call)) (x : ℕ) where
  -- one more transaction, and one fewer left
  pub single_more : (i z : ℕ) → i < count → z ≡ drawn_on x 5 → next ≡ turns ++ alone (drawn_from x) → turns ++ in_turn false x (count - i) ≡ whole
      → next ++ in_turn false z (count - (i + 1)) ≡ whole
  single_more i z lt on now before =
      (λ k. now k ++ in_turn false (on k) (count - (i + 1)))
      ∙ append_assoc turns (alone (drawn_from x)) (in_turn false (drawn_on x 5) (count - (i + 1)))
      ∙ ap (λ (l : List (ℕ × Call)). turns ++ l) (sym (single_on x (count - i) (count - (i + 1)) (omega (arith, lt))))
      ∙ before

  -- two more, and two fewer left
  pub pair_more : (i j y z : ℕ) → j ≡ i + 2 → i + 1 < count → y ≡ drawn_on x 5 → z ≡ drawn_on y 5 → next ≡ turns ++ paired (drawn_from x) (drawn_from y)
      → turns ++ in_turn true x (count - i) ≡ whole → next ++ in_turn true z (count - j) ≡ whole
  pair_more i j y z behind lt mid on now before =
      let far : z ≡ drawn_on x 10 = on ∙ ap (λ (s : ℕ). drawn_on s 5) mid in
      (λ k. now k ++ in_turn true (far k) (count - behind k))
      ∙ append_assoc turns (paired (drawn_from x) (drawn_from y)) (in_turn true (drawn_on x 10) (count - (i + 2)))
      ∙ ap (λ (s : ℕ). turns ++ (paired (drawn_from x) (drawn_from s) ++ in_turn true (drawn_on x 10) (count - (i + 2)))) mid
      ∙ ap (λ (l : List (ℕ × Call)). turns ++ l) (sym (pair_on x (count - i) (count - (i + 2)) (omega (arith, lt))))
      ∙ before

  -- the last one alone
  pub last_alone : (i : ℕ) → count - i ≡ 1 → next ≡ turns ++ alone (drawn_from x) → turns ++ in_turn true x (count - i) ≡ whole → next ≡ whole
  last_alone i one now before = now ∙ ap (λ (l : List (ℕ × Call)). turns ++ l) (sym (append-nil (alone (drawn_from x)))) ∙ ap (λ (n : ℕ). turns ++ in_turn true x n) (sym one) ∙ before

-- none is left
pub none_left : (pairs : Bool) (x i count : ℕ) (turns whole : List (ℕ × Call)) → count - i ≡ 0 → turns ++ in_turn pairs x (count - i) ≡ whole → turns ≡ whole
none_left pairs x i count turns whole none before = sym (append-nil turns) ∙ ap (λ (n : ℕ). turns ++ in_turn pairs x n) (sym none) ∙ before

-- there are two callers
pub drill_pairs : (seed count callers : ℕ) → 2 ≤ callers → in_turn true seed count ≡ drill seed count callers
drill_pairs seed count callers two = ap (λ (pairs : Bool). in_turn pairs seed count) (sym (le-leb 2 callers two))

-- there is one
pub drill_singles : (seed count callers : ℕ) → callers < 2 → in_turn false seed count ≡ drill seed count callers
drill_singles seed count callers one = let is : nat_le 2 callers ≡ false = grind (arith, nat_tests, one) in ap (λ (pairs : Bool). in_turn pairs seed count) (sym is)

use Rattle.std.proofs.Common.{◌≡◌, ◌≤◌, ◌+◌, ◌-◌, length, ℕ, Bool, true, false, ◌&&◌, List, ◌++◌, take, drop, refl, ap, sym, ◌∙◌, arith}
use Rattle.std.proofs.Math.Seq.{take-add}
use Rattle.std.proofs.lemmas.List.{take-append-drop, drop-drop, take_all, length-drop}
use Rattle.std.proofs.lemmas.List.Folds.{list_all-append}
use Rattle.std.specs.List.{list_all}
use Rattle.record_slots.specs.Text.{is_visible}
use Rattle.record_slots.proofs.value.ends_visible.Goals as goal

-- what is tested twice is tested
twice : (a b c : Bool) → ((a && b) && (b && c)) ≡ ((a && b) && c)
twice true true c = refl
twice true false c = refl
twice false b c = refl

-- a list of front, middle and back is tested by its front with the middle, and by the middle with its back
overlap : {X : Type 0} (p : X → Bool) (front middle back : List X) → (list_all p (front ++ middle) && list_all p (middle ++ back)) ≡ list_all p ((front ++ middle) ++ back)
overlap p front middle back =
    rw (list_all-append p (front ++ middle) back, list_all-append p middle back, list_all-append p front middle) (twice (list_all p front) (list_all p middle) (list_all p back))

-- the first n and those behind the first m, which are no more than n, are all
ends : (p : ℕ → Bool) (n m : ℕ) (xs : List ℕ) → m ≤ n → (list_all p (take n xs) && list_all p (drop m xs)) ≡ list_all p xs
ends p n m xs le =
    let sum : m + (n - m) ≡ n = omega arith in
    let front : take n xs ≡ take m xs ++ take (n - m) (drop m xs) = ap (λ k. take k xs) (sym sum) ∙ take-add m (n - m) xs in
    let back : drop m xs ≡ take (n - m) (drop m xs) ++ drop n xs =
    sym (take-append-drop (n - m) (drop m xs)) ∙ ap (λ ys. take (n - m) (drop m xs) ++ ys) (drop-drop (n - m) m xs ∙ ap (λ k. drop k xs) sum) in
    let whole : (take m xs ++ take (n - m) (drop m xs)) ++ drop n xs ≡ xs = ap (λ ys. ys ++ drop n xs) (sym front) ∙ take-append-drop n xs in
    ap (λ ys. list_all p ys && list_all p (drop m xs)) front
    ∙ ap (λ ys. list_all p (take m xs ++ take (n - m) (drop m xs)) && list_all p ys) back
    ∙ overlap p (take m xs) (take (n - m) (drop m xs)) (drop n xs)
    ∙ ap (list_all p) whole

pub returns : goal.returns
returns g c =
    let text : List ℕ = c.args.text.now in
    let from : ℕ = length text - g.row.N in
    let last : c.each_visible-2.result ≡ list_all is_visible (drop from text) =
    c.each_visible-2.ensures ∙ ap (list_all is_visible) (take_all (length text - from) (drop from text) (omega (arith, length-drop from text))) in
    ap (λ x. x && c.each_visible-2.result) c.each_visible.ensures
    ∙ ap (λ x. list_all is_visible (take g.row.N text) && x) last
    ∙ ends is_visible g.row.N from text (omega arith)

-- The data before each change.
use Rattle.std.proofs.Common.{◌≡◌, ℕ, ◌+◌, ◌-◌, ◌*◌, ◌<◌, ◌≤◌, List, [], ◌∷◌, ◌++◌, length, take, drop, ◌∙◌, ap, arith}
use Rattle.std.proofs.lemmas.List.{nil_from_length, take_all, take-append-le, drop-append-le, length-append, length-drop}
use Rattle.memory_eaw.specs.Kept.{Version, versions, HoldsPast}

pub versions-push : (size until : ℕ) (untils past bytes : List ℕ) → length past ≡ length untils * size → length bytes ≡ size → versions size (untils ++ until ∷ []) (past ++ bytes) ≡ versions size untils past ++ record { until = until; bytes = bytes } ∷ []
versions-push size until [] past bytes whole long =
    let none : past ≡ [] = nil_from_length past (omega arith) in
    ap (λ (l : List ℕ). record { until = until; bytes = l } ∷ []) (ap (λ (l : List ℕ). take size (l ++ bytes)) none ∙ take_all size bytes (omega arith))
versions-push size until (u ∷ untils) past bytes whole long =
    let le : size ≤ length past = omega arith in
    (λ i. record { until = u; bytes = take-append-le size past bytes le i } ∷ versions size (untils ++ until ∷ []) (drop-append-le size past bytes le i))
    ∙ ap (λ (vs : List Version). record { until = u; bytes = take size past } ∷ vs) (versions-push size until untils (drop size past) bytes (omega (arith, length-drop size past)) long)

-- one more change
module _ (size room until m n : ℕ) (untils past bytes : List ℕ) (holds : HoldsPast size room untils past m n) (some : 0 < room) (long : length bytes ≡ size) where
  less : room * size ≡ (room - 1) * size + size
  less = let one : room ≡ room - 1 + 1 = omega arith in ap (λ (k : ℕ). k * size) one ∙ omega arith

  pub fits_more : length past + length bytes ≤ n
  fits_more = omega (arith, holds.bytes, less)

  pub holds_more : (untils' past' : List ℕ) (m' n' : ℕ) → untils' ≡ untils ++ until ∷ [] → past' ≡ past ++ bytes → m' ≡ m → n ≤ n' → HoldsPast size (room - 1) untils' past' m' n'
  holds_more untils' past' m' n' untils_is past_is same le =
      let count : length untils' ≡ length untils + 1 = ap length untils_is ∙ length-append untils (until ∷ []) in
      record {
        whole = omega (arith, holds.whole, ap length past_is, length-append past bytes, ap (λ (k : ℕ). k * size) count);
        moments = omega (arith, holds.moments);
        bytes = omega (arith, holds.bytes, ap length past_is, length-append past bytes, less);
        first = λ none. absurd (omega (arith, count, none));
      }

  pub versions_more : (untils' past' : List ℕ) → untils' ≡ untils ++ until ∷ [] → past' ≡ past ++ bytes → versions size untils' past' ≡ versions size untils past ++ record { until = until; bytes = bytes } ∷ []
  versions_more untils' past' untils_is past_is = (λ i. versions size (untils_is i) (past_is i)) ∙ versions-push size until untils past bytes holds.whole long

-- A part of a list with other items in its place.
use Rattle.std.proofs.Common.{◌≡◌, ℕ, ◌+◌, ◌-◌, ◌<◌, ◌≤◌, List, ◌++◌, length, get_or, take, drop, ◌∙◌, ap, arith, length-append, length-drop, append-nil, take_all}
use Rattle.std.proofs.lemmas.List.{get_or-take, get_or_append_left, get_or-append_right, length-take-le, get_or-drop, drop_all}
use borrow.Rule.Slice.PartMut.{put_mid, post_of}

pub back : {X : Type 0} (items new : List X) (n : ℕ) → n ≡ length items → length new ≡ length items → take n (new ++ drop (length new) items) ≡ new
back {X} items new n count long = ap (λ (l : List X). take n (new ++ l)) (drop_all (length new) items (omega (arith, long))) ∙ ap (take n) (append-nil new) ∙ take_all n new (omega (arith, count, long))

module _ (from k : ℕ) (old part : List ℕ) (long : length part ≡ k) (fits : from + k ≤ length old) where
  abbrev now : List ℕ
  now = put_mid from k old part

  front : length (take from old) ≡ from
  front = length-take-le from old (omega arith)

  pub now_before : (i : ℕ) → i < from → get_or now i 0 ≡ get_or old i 0
  now_before i lt = get_or_append_left (take from old) (part ++ post_of from k old) 0 i (omega (arith, front)) ∙ get_or-take from old i 0 lt

  pub now_inside : (i : ℕ) → from ≤ i → i < from + k → get_or now i 0 ≡ get_or part (i - from) 0
  now_inside i le lt = get_or-append_right (take from old) (part ++ post_of from k old) from i 0 front le ∙ get_or_append_left part (post_of from k old) 0 (i - from) (omega arith)

  pub now_after : (i : ℕ) → from + k ≤ i → get_or now i 0 ≡ get_or old i 0
  now_after i le =
      get_or-append_right (take from old) (part ++ post_of from k old) from i 0 front (omega arith)
      ∙ get_or-append_right part (post_of from k old) k (i - from) 0 long (omega arith)
      ∙ get_or-drop k (drop from old) (i - from - k) 0
      ∙ get_or-drop from old (k + (i - from - k)) 0
      ∙ ap (λ (j : ℕ). get_or old j 0) (omega arith)

  pub now_long : length now ≡ length old
  now_long = omega (arith, front, length-append (take from old) (part ++ post_of from k old), length-append part (post_of from k old), length-drop k (drop from old), length-drop from old)

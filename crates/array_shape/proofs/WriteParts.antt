-- What the parts of a write make of data.
use Rattle.std.proofs.Common.{◌≡◌, ℕ, zero, suc, ◌+◌, ◌-◌, ◌%◌, ◌<◌, ◌≤◌, inl, inr, List, [], ◌∷◌, ◌++◌, length, get_or, take, drop, refl, sym, ◌∙◌, ap, arith}
use Rattle.std.proofs.lemmas.Bool.{cases_lt}
use Rattle.std.proofs.lemmas.List.{ext_get_or, get_or_append_left, get_or-append_right, length-append, append-nil, length-take, length-drop, take-append-drop, take_all, nil_from_length}
use Rattle.mars_base.specs.Bytes.{put}
use Rattle.mars_base.proofs.Puts.{length-put, get_or-put_before, get_or-put_after, get_or-put_inside}
use Rattle.array_shape.specs.Parts.{page_left, first_parts_of_write, parts_of_write}
use Rattle.array_shape.specs.Logged.{applied}
use Rattle.array_shape.proofs.Cutting.{parts_of_write-none, parts_of_write-some}

-- two writes, the second behind the first
put-append : (d : List ℕ) (at : ℕ) (xs ys : List ℕ) → at + length xs + length ys ≤ length d → put (put d at xs) (at + length xs) ys ≡ put d at (xs ++ ys)
put-append d at xs ys fits =
    let both = length-append xs ys in
    let first = length-put d at xs (omega arith) in
    let inner : at + length xs + length ys ≤ length (put d at xs) = omega arith in
    let whole : at + length (xs ++ ys) ≤ length d = omega arith in
    ext_get_or 0 (put (put d at xs) (at + length xs) ys) (put d at (xs ++ ys))
    (length-put (put d at xs) (at + length xs) ys inner ∙ first ∙ sym (length-put d at (xs ++ ys) whole))
    (λ i lt. elim (cases_lt i at) [
      | inl before ↦
          get_or-put_before (put d at xs) (at + length xs) ys inner i (omega arith) ∙ get_or-put_before d at xs (omega arith) i before
          ∙ sym (get_or-put_before d at (xs ++ ys) whole i before)
      | inr from ↦ elim (cases_lt i (at + length xs)) [
        | inl in_first ↦
            get_or-put_before (put d at xs) (at + length xs) ys inner i in_first ∙ get_or-put_inside d at xs (omega arith) i from in_first
            ∙ sym (get_or-put_inside d at (xs ++ ys) whole i from (omega arith) ∙ get_or_append_left xs ys 0 (i - at) (omega arith))
        | inr past ↦ elim (cases_lt i (at + length xs + length ys)) [
          | inl in_second ↦
              get_or-put_inside (put d at xs) (at + length xs) ys inner i past in_second
              ∙ ap (λ (k : ℕ). get_or ys k 0) (omega arith)
              ∙ sym (get_or-put_inside d at (xs ++ ys) whole i from (omega arith) ∙ get_or-append_right xs ys (length xs) (i - at) 0 refl (omega arith))
          | inr after ↦
              get_or-put_after (put d at xs) (at + length xs) ys inner i after ∙ get_or-put_after d at xs (omega arith) i past
              ∙ sym (get_or-put_after d at (xs ++ ys) whole i (omega arith))
        ]
      ]
    ])

first_none : (n addr : ℕ) (bytes : List ℕ) → length bytes ≡ 0 → first_parts_of_write n addr bytes ≡ []
first_none zero addr bytes none = refl
first_none (suc n) addr [] none = refl
first_none (suc n) addr (b ∷ bytes) none = absurd (omega arith)

put_nothing : (d : List ℕ) (at : ℕ) → put d at [] ≡ d
put_nothing d at = (let here : at + 0 ≡ at = omega arith in λ i. append-nil (take at d) i ++ drop (here i) d) ∙ take-append-drop at d

first_applied : (n addr : ℕ) (bytes d : List ℕ) → length bytes ≤ n → addr + length bytes ≤ length d → applied (first_parts_of_write n addr bytes) d ≡ put d addr bytes
first_applied zero addr [] d le fits = sym (put_nothing d addr)
first_applied zero addr (b ∷ bytes) d le fits = absurd (omega arith)
first_applied (suc n) addr [] d le fits = sym (put_nothing d addr)
first_applied (suc n) addr (b ∷ bytes) d le fits =
    let k = page_left addr in
    let here = take (page_left addr) (b ∷ bytes) in
    let later = drop (page_left addr) (b ∷ bytes) in
    let here_long = length-take (page_left addr) (b ∷ bytes) in
    let later_long = length-drop (page_left addr) (b ∷ bytes) in
    elim (cases_lt (length (b ∷ bytes)) (page_left addr)) [
      | inl lt ↦
          ap (λ (ps : List (ℕ × List ℕ)). applied ps (put d addr (take (page_left addr) (b ∷ bytes)))) (first_none n (addr + page_left addr) later (omega arith))
          ∙ ap (put d addr) (take_all (page_left addr) (b ∷ bytes) (omega arith))
      | inr whole ↦
          first_applied n (addr + page_left addr) later (put d addr here) (omega arith) (omega (arith, length-put d addr here (omega arith)))
          ∙ ap (λ (j : ℕ). put (put d addr (take (page_left addr) (b ∷ bytes))) (addr + j) (drop (page_left addr) (b ∷ bytes))) (omega arith)
          ∙ put-append d addr here later (omega arith)
          ∙ ap (put d addr) (take-append-drop (page_left addr) (b ∷ bytes))
    ]

-- written in their order, they are the write
pub applied_write_parts : (addr : ℕ) (bytes d : List ℕ) → addr + length bytes ≤ length d → applied (parts_of_write addr bytes) d ≡ put d addr bytes
unfolding parts_of_write
applied_write_parts addr bytes d fits = first_applied (length bytes) addr bytes d (omega arith) fits

-- within one page there is one
pub one_write_part : (addr : ℕ) (bytes : List ℕ) → 0 < length bytes → addr % 512 + length bytes ≤ 512 → parts_of_write addr bytes ≡ (addr, bytes) ∷ []
one_write_part addr bytes some page =
    let enough : length bytes ≤ page_left addr = omega arith in
    let whole : take (page_left addr) bytes ≡ bytes = take_all (page_left addr) bytes enough in
    let rest : drop (page_left addr) bytes ≡ [] = nil_from_length (drop (page_left addr) bytes) (omega (arith, length-drop (page_left addr) bytes, enough)) in
    parts_of_write-some addr bytes some
    ∙ (λ i. (addr, whole i) ∷ parts_of_write (addr + page_left addr) (rest i))
    ∙ ap (λ (ps : List (ℕ × List ℕ)). (addr, bytes) ∷ ps) (parts_of_write-none (addr + page_left addr))

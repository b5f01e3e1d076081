-- What the bytes of rows and heads say, when some of them are the same.
use Rattle.std.proofs.Common.{◌≡◌, ℕ, zero, suc, ◌+◌, ◌^◌, ◌<◌, ◌≤◌, Bool, true, false, nat_eq, if◌then◌else◌, List, [], ◌++◌, get_or, take, drop, replicate, refl, sym, ◌∙◌, ap, arith}
use Rattle.std.proofs.lemmas.List.{get_or-drop}
use Rattle.byteorder.specs.Endian.{little_from, little_bytes}
use Rattle.byteorder.specs.Numbers.{little_number-reads_back, little_from-take, little_from-cons}
use Rattle.row_bytes.specs.declared.row.Row.{Row}
use Rattle.row_bytes.specs.declared.head.Head.{Head}
use Rattle.row_bytes.specs.Said.{row_said, head_said}
use Rattle.row_bytes.specs.Written.{row_rest, row_bytes, head_bytes}

-- a number in the bytes from place k on
pub little_from-drop : (i k n : ℕ) (xs : List ℕ) → little_from i n (drop k xs) ≡ little_from (k + i) n xs
little_from-drop i k zero xs = refl
little_from-drop i k (suc n) xs =
    let here = get_or-drop k xs i 0 in
    let rest : little_from (suc i) n (drop k xs) ≡ little_from (suc (k + i)) n xs = little_from-drop (suc i) k n xs ∙ ap (λ (j : ℕ). little_from j n xs) (omega arith) in
    cc

-- bytes that are the same in another place make the same number
pub little_from-same : (i j n : ℕ) (xs ys : List ℕ) → ((k : ℕ) → k < n → get_or xs (i + k) 0 ≡ get_or ys (j + k) 0) → little_from i n xs ≡ little_from j n ys
little_from-same i j zero xs ys same = refl
little_from-same i j (suc n) xs ys same =
    let here : get_or xs i 0 ≡ get_or ys j 0 = (let z : i ≡ i + 0 = omega arith in let z' : j + 0 ≡ j = omega arith in ap (λ (k : ℕ). get_or xs k 0) z ∙ same 0 (omega arith) ∙ ap (λ (k : ℕ). get_or ys k 0) z') in
    let rest : little_from (suc i) n xs ≡ little_from (suc j) n ys = little_from-same (suc i) (suc j) n xs ys (λ k lt.
    let z : suc i + k ≡ i + suc k = omega arith in let z' : j + suc k ≡ suc j + k = omega arith in
    ap (λ (k : ℕ). get_or xs k 0) z ∙ same (suc k) (omega arith) ∙ ap (λ (k : ℕ). get_or ys k 0) z') in
    cc

-- a row with these fields
abbrev pub row : Bool → ℕ → ℕ → ℕ → ℕ → ℕ → Row
row voted mask first count group order = record { voted = voted; mask = mask; first = first; count = count; group = group; order = order }

pub row_said-is : (bytes : List ℕ) (r : Row) → nat_eq (get_or bytes 0 0) 0xC3 ≡ r.voted → get_or bytes 1 0 ≡ r.mask → little_from 2 2 bytes ≡ r.first → little_from 4 2 bytes ≡ r.count → little_from 6 8 bytes ≡ r.group → little_from 14 2 bytes ≡ r.order → row_said bytes ≡ r
unfolding row_said
row_said-is bytes r v m f c g o = λ i. record { voted = v i; mask = m i; first = f i; count = c i; group = g i; order = o i }

-- its 16 bytes say it all
pub row_said-same : (xs ys : List ℕ) → ((k : ℕ) → k < 16 → get_or xs k 0 ≡ get_or ys k 0) → row_said xs ≡ row_said ys
unfolding row_said
row_said-same xs ys same =
    row_said-is xs (row_said ys) (ap (λ (b : ℕ). nat_eq b 0xC3) (same 0 (omega arith))) (same 1 (omega arith))
    (little_from-same 2 2 2 xs ys (λ k lt. same (2 + k) (omega arith)))
    (little_from-same 4 4 2 xs ys (λ k lt. same (4 + k) (omega arith)))
    (little_from-same 6 6 8 xs ys (λ k lt. same (6 + k) (omega arith)))
    (little_from-same 14 14 2 xs ys (λ k lt. same (14 + k) (omega arith)))

-- a new byte 0 changes the vote alone
pub row_said-vote : (old new : List ℕ) (vote : ℕ) → get_or new 0 0 ≡ vote → ((k : ℕ) → 1 ≤ k → k < 16 → get_or new k 0 ≡ get_or old k 0)
    → row_said new ≡ row (nat_eq vote 0xC3) (row_said old).mask (row_said old).first (row_said old).count (row_said old).group (row_said old).order
unfolding row_said
row_said-vote old new vote is same =
    row_said-is new _ (ap (λ (b : ℕ). nat_eq b 0xC3) is) (same 1 (omega arith) (omega arith))
    (little_from-same 2 2 2 new old (λ k lt. same (2 + k) (omega arith) (omega arith)))
    (little_from-same 4 4 2 new old (λ k lt. same (4 + k) (omega arith) (omega arith)))
    (little_from-same 6 6 8 new old (λ k lt. same (6 + k) (omega arith) (omega arith)))
    (little_from-same 14 14 2 new old (λ k lt. same (14 + k) (omega arith) (omega arith)))

-- its numbers fit into their bytes
pub record AreSmall (r : Row) : Type 0 where
  pub first : r.first < 2 ^ 16
  pub count : r.count < 2 ^ 16
  pub group : r.group < 2 ^ 64
  pub order : r.order < 2 ^ 16

-- the numbers that follow the vote
module _ (r : Row) where
  first_written : r.first < 2 ^ 16 → little_from 1 2 (row_rest r) ≡ r.first
  first_written fits = sym (little_from-drop 0 1 2 (row_rest r)) ∙ little_number-reads_back 2 r.first (little_bytes 2 r.count ++ little_bytes 8 r.group ++ little_bytes 2 r.order) fits

  count_written : r.count < 2 ^ 16 → little_from 3 2 (row_rest r) ≡ r.count
  count_written fits = sym (little_from-drop 0 3 2 (row_rest r)) ∙ little_number-reads_back 2 r.count (little_bytes 8 r.group ++ little_bytes 2 r.order) fits

  group_written : r.group < 2 ^ 64 → little_from 5 8 (row_rest r) ≡ r.group
  group_written fits = sym (little_from-drop 0 5 8 (row_rest r)) ∙ little_number-reads_back 8 r.group (little_bytes 2 r.order) fits

  order_written : r.order < 2 ^ 16 → little_from 13 2 (row_rest r) ≡ r.order
  order_written fits = sym (little_from-drop 0 13 2 (row_rest r)) ∙ little_number-reads_back 2 r.order [] fits

-- new bytes 1 to 15 change the rest alone
pub row_said-rest : (old new : List ℕ) (r : Row) → AreSmall r → get_or new 0 0 ≡ get_or old 0 0 → ((k : ℕ) → k < 15 → get_or new (k + 1) 0 ≡ get_or (row_rest r) k 0)
    → row_said new ≡ row (row_said old).voted r.mask r.first r.count r.group r.order
unfolding row_said
row_said-rest old new r small vote written =
    row_said-is new _ (ap (λ (b : ℕ). nat_eq b 0xC3) vote) (written 0 (omega arith))
    (little_from-same 2 1 2 new (row_rest r) (λ k lt. at 1 k (omega arith)) ∙ first_written r small.first)
    (little_from-same 4 3 2 new (row_rest r) (λ k lt. at 3 k (omega arith)) ∙ count_written r small.count)
    (little_from-same 6 5 8 new (row_rest r) (λ k lt. at 5 k (omega arith)) ∙ group_written r small.group)
    (little_from-same 14 13 2 new (row_rest r) (λ k lt. at 13 k (omega arith)) ∙ order_written r small.order)
  where
    at : (i k : ℕ) → i + k < 15 → get_or new (suc i + k) 0 ≡ get_or (row_rest r) (i + k) 0
    at i k lt = let z : suc i + k ≡ i + k + 1 = omega arith in ap (λ (j : ℕ). get_or new j 0) z ∙ written (i + k) lt

vote_said : (voted : Bool) → nat_eq (if voted then 0xC3 else 0) 0xC3 ≡ voted
vote_said true = refl
vote_said false = refl

-- what is written says what was meant
pub row_said-bytes : (r : Row) → AreSmall r → row_said (row_bytes r) ≡ r
row_said-bytes r small =
    let vote : ℕ = if r.voted then 0xC3 else 0 in
    row_said-is (row_bytes r) r (vote_said r.voted) refl
    (little_from-cons 1 2 vote (row_rest r) ∙ first_written r small.first)
    (little_from-cons 3 2 vote (row_rest r) ∙ count_written r small.count)
    (little_from-cons 5 8 vote (row_rest r) ∙ group_written r small.group)
    (little_from-cons 13 2 vote (row_rest r) ∙ order_written r small.order)

pub head_said-is : (bytes : List ℕ) (addr len : ℕ) → little_from 0 8 bytes ≡ addr → little_from 8 2 bytes ≡ len → head_said bytes ≡ record { addr = addr; len = len }
unfolding head_said
head_said-is bytes addr len a l = λ i. record { addr = a i; len = l i }

-- the first 10 bytes say it all
pub head_said-same : (xs ys : List ℕ) → ((k : ℕ) → k < 16 → get_or xs k 0 ≡ get_or ys k 0) → head_said xs ≡ head_said ys
unfolding head_said
head_said-same xs ys same =
    head_said-is xs _ _ (little_from-same 0 0 8 xs ys (λ k lt. same (0 + k) (omega arith))) (little_from-same 8 8 2 xs ys (λ k lt. same (8 + k) (omega arith)))

pub head_said-bytes : (head : Head) → head.addr < 2 ^ 64 → head.len < 2 ^ 16 → head_said (head_bytes head) ≡ head
head_said-bytes head small small' =
    head_said-is (head_bytes head) head.addr head.len
    (little_number-reads_back 8 head.addr (little_bytes 2 head.len ++ replicate 6 0) small)
    (sym (little_from-drop 0 8 2 (head_bytes head)) ∙ little_number-reads_back 2 head.len (replicate 6 0) small')

-- a number that is read at a place of a longer piece
pub little_from-piece : (at n m : ℕ) (bytes : List ℕ) → n ≤ m → little_from 0 n (take m (drop at bytes)) ≡ little_from at n bytes
little_from-piece at n m bytes fits =
    little_from-take 0 n m (drop at bytes) (omega arith) ∙ little_from-drop 0 at n bytes ∙ ap (λ (k : ℕ). little_from k n bytes) (omega arith)

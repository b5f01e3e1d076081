-- What a written page says.
use Rattle.std.proofs.Common.{◌≡◌, ℕ, zero, suc, ◌+◌, ◌-◌, ◌*◌, ◌^◌, ◌<◌, ◌≤◌, true, false, nat_lt, inl, inr, List, [], ◌∷◌, ◌++◌, length, get_or, take, drop, replicate, refl, sym, ◌∙◌, ap, append_assoc, arith}
use Rattle.std.proofs.lemmas.List.{append-nil, length-append, take_at, drop_at, drop-drop, drop-replicate, length-take-le}
use Rattle.std.proofs.lemmas.List.{take_more}
use Rattle.byteorder.specs.Endian.{little_from, little_bytes}
use Rattle.byteorder.specs.Numbers.{little_number-reads_back, length-bytes_low_first}
use Rattle.mars_base.specs.Bytes.{put}
use Rattle.page_store.specs.Pairs.{Pair, inserted}
use Rattle.std.proofs.lemmas.Bool.Decides.{leb_tells}
use Rattle.index_pages.specs.Page.{kind_said, level_said, count_said, link_said, pair_said, pairs_from, pairs_said}
use Rattle.index_pages.specs.Written.{pair_bytes, pairs_bytes, kind_for, front_bytes, written_page, AreSmall}
use Rattle.record_slots.proofs.SlotLemmas.{little_shift}

pub kind_leaf : (level : ℕ) → level ≡ 0 → 1 ≡ kind_for level
kind_leaf zero none = refl
kind_leaf (suc level) none = absurd (omega arith)

pub kind_inner : (level : ℕ) → (level ≡ 0 → ⊥) → 2 ≡ kind_for level
kind_inner zero some = absurd (some refl)
kind_inner (suc level) some = refl

pub length-pair_bytes : (p : Pair) → length (pair_bytes p) ≡ 16
unfolding pair_bytes
length-pair_bytes p = omega (arith, length-append (little_bytes 8 p.0) (little_bytes 8 p.1), length-bytes_low_first 0 8 p.0, length-bytes_low_first 0 8 p.1)

pub no_pairs_bytes : pairs_bytes [] ≡ []
unfolding pairs_bytes
no_pairs_bytes = refl

pub length-pairs_bytes : (ps : List Pair) → length (pairs_bytes ps) ≡ 16 * length ps
unfolding pairs_bytes
length-pairs_bytes [] = refl
length-pairs_bytes (p ∷ ps) = omega (arith, length-append (pair_bytes p) (pairs_bytes ps), length-pair_bytes p, length-pairs_bytes ps)

pub pairs_bytes-one_more : (ps : List Pair) (p : Pair) → pairs_bytes (ps ++ p ∷ []) ≡ pairs_bytes ps ++ pair_bytes p
unfolding pairs_bytes
pairs_bytes-one_more [] p = append-nil (pair_bytes p)
pairs_bytes-one_more (q ∷ ps) p = ap (λ (l : List ℕ). pair_bytes q ++ l) (pairs_bytes-one_more ps p) ∙ sym (append_assoc (pair_bytes q) (pairs_bytes ps) (pair_bytes p))

-- bytes put behind the first two pieces
put_behind : (front mid tail more : List ℕ) (n : ℕ) → n ≡ length front + length mid → put (front ++ (mid ++ tail)) n more ≡ front ++ ((mid ++ more) ++ drop (length more) tail)
put_behind front mid tail more n is =
    let whole : front ++ (mid ++ tail) ≡ (front ++ mid) ++ tail = sym (append_assoc front mid tail) in
    let long : length (front ++ mid) ≡ n = length-append front mid ∙ sym is in
    let head : take n (front ++ (mid ++ tail)) ≡ front ++ mid = ap (take n) whole ∙ take_at (front ++ mid) tail n long in
    let rest : drop (n + length more) (front ++ (mid ++ tail)) ≡ drop (length more) tail =
    sym (drop-drop (length more) n (front ++ (mid ++ tail))) ∙ ap (drop (length more)) (ap (drop n) whole ∙ drop_at (front ++ mid) tail n long) in
    ap (λ (l : List ℕ). l ++ more ++ drop (n + length more) (front ++ (mid ++ tail))) head ∙ ap (λ (l : List ℕ). (front ++ mid) ++ more ++ l) rest
    ∙ ap (λ (l : List ℕ). l ++ drop (length more) tail) (append_assoc (front) (mid) (more)) ∙ append_assoc (front) (mid ++ more) (drop (length more) tail)

-- one more pair is written
pub pair_written : (front : List ℕ) (ps : List Pair) (i : ℕ) (d : Pair) → length front ≡ 8 → i < length ps → length ps ≤ 30
    → put (front ++ (pairs_bytes (take i ps) ++ replicate (504 - 16 * i) 0)) (8 + 16 * i) (pair_bytes (get_or ps i d))
    ≡ front ++ (pairs_bytes (take (i + 1) ps) ++ replicate (504 - 16 * (i + 1)) 0)
pair_written front ps i d long lt few =
    let size : length (pairs_bytes (take i ps)) ≡ 16 * i = length-pairs_bytes (take i ps) ∙ ap (λ (n : ℕ). 16 * n) (length-take-le i ps (omega arith)) in
    let more : take (i + 1) ps ≡ take i ps ++ get_or ps i d ∷ [] = take_more ps i d lt in
    let zeros : drop (length (pair_bytes (get_or ps i d))) (replicate (504 - 16 * i) 0) ≡ replicate (504 - 16 * (i + 1)) 0 =
    ap (λ (n : ℕ). drop n (replicate (504 - 16 * i) 0)) (length-pair_bytes (get_or ps i d)) ∙ drop-replicate 16 (504 - 16 * i) 0 ∙ ap (λ (n : ℕ). replicate n 0) (let e : 504 - 16 * i - 16 ≡ 504 - 16 * (i + 1) = omega arith in e) in
    put_behind front (pairs_bytes (take i ps)) (replicate (504 - 16 * i) 0) (pair_bytes (get_or ps i d)) (8 + 16 * i) (omega arith)
    ∙ ap (λ (l : List ℕ). front ++ (l ++ drop (length (pair_bytes (get_or ps i d))) (replicate (504 - 16 * i) 0))) (sym (ap pairs_bytes more ∙ pairs_bytes-one_more (take i ps) (get_or ps i d)))
    ∙ ap (λ (l : List ℕ). front ++ (pairs_bytes (take (i + 1) ps) ++ l)) zeros

-- a pair is read back
pair_back : (page rest : List ℕ) (i : ℕ) (p : Pair) → p.0 < 2 ^ 64 → p.1 < 2 ^ 64 → drop (8 + 16 * i) page ≡ pair_bytes p ++ rest → pair_said page i ≡ p
unfolding pair_said pair_bytes
pair_back page rest i p small small' is =
    let here : drop (8 + 16 * i) page ≡ little_bytes 8 p.0 ++ (little_bytes 8 p.1 ++ rest) = is ∙ append_assoc (little_bytes 8 p.0) (little_bytes 8 p.1) (rest) in
    let there : drop (16 + 16 * i) page ≡ little_bytes 8 p.1 ++ rest =
    ap (λ (n : ℕ). drop n page) (let e : 16 + 16 * i ≡ 8 + 16 * i + 8 = omega arith in e) ∙ sym (drop-drop 8 (8 + 16 * i) page) ∙ ap (drop 8) here
    ∙ drop_at (little_bytes 8 p.0) (little_bytes 8 p.1 ++ rest) 8 (length-bytes_low_first 0 8 p.0) in
    let first : little_from (8 + 16 * i) 8 page ≡ p.0 =
    ap (λ (n : ℕ). little_from n 8 page) (let e : 8 + 16 * i ≡ 8 + 16 * i + 0 = omega arith in e) ∙ sym (little_shift 0 (8 + 16 * i) 8 page) ∙ ap (little_from 0 8) here
    ∙ little_number-reads_back 8 p.0 (little_bytes 8 p.1 ++ rest) small in
    let second : little_from (16 + 16 * i) 8 page ≡ p.1 =
    ap (λ (n : ℕ). little_from n 8 page) (let e : 16 + 16 * i ≡ 16 + 16 * i + 0 = omega arith in e) ∙ sym (little_shift 0 (16 + 16 * i) 8 page) ∙ ap (little_from 0 8) there
    ∙ little_number-reads_back 8 p.1 rest small' in
    λ j. (first j, second j)

pairs_back : (page rest : List ℕ) (i : ℕ) (ps : List Pair) → AreSmall ps → drop (8 + 16 * i) page ≡ pairs_bytes ps ++ rest → pairs_from page i (length ps) ≡ ps
unfolding pairs_bytes
pairs_back page rest i [] small is = refl
pairs_back page rest i (p ∷ ps) small is =
    let here : drop (8 + 16 * i) page ≡ pair_bytes p ++ (pairs_bytes ps ++ rest) = is ∙ append_assoc (pair_bytes p) (pairs_bytes ps) (rest) in
    let first = pair_back page (pairs_bytes ps ++ rest) i p small.0 small.1 here in
    let later : drop (8 + 16 * (i + 1)) page ≡ pairs_bytes ps ++ rest =
    ap (λ (n : ℕ). drop n page) (let e : 8 + 16 * (i + 1) ≡ 8 + 16 * i + 16 = omega arith in e) ∙ sym (drop-drop 16 (8 + 16 * i) page) ∙ ap (drop 16) here
    ∙ drop_at (pair_bytes p) (pairs_bytes ps ++ rest) 16 (length-pair_bytes p) in
    let others = pairs_back page rest (i + 1) ps small.2 later in
    λ j. first j ∷ others j

pub length-front : (level count link : ℕ) → length (front_bytes level count link) ≡ 8
unfolding front_bytes
length-front level count link = omega (arith, length-append (little_bytes 2 count) (little_bytes 4 link), length-bytes_low_first 0 2 count, length-bytes_low_first 0 4 link)

-- what the written page says
module _ (level link : ℕ) (ps : List Pair) (few : length ps ≤ 30) (fits : link < 2 ^ 32) where
  tail : List ℕ
  tail = pairs_bytes ps ++ replicate (504 - 16 * length ps) 0

  pub written_kind : kind_said (written_page level link ps) ≡ kind_for level
  unfolding kind_said written_page front_bytes
  written_kind = refl

  pub written_level : level_said (written_page level link ps) ≡ level
  unfolding level_said written_page front_bytes
  written_level = refl

  pub written_count : count_said (written_page level link ps) ≡ length ps
  unfolding count_said written_page front_bytes tail
  written_count =
      sym (little_shift 0 2 2 (front_bytes level (length ps) link ++ tail))
      ∙ ap (little_from 0 2) (append_assoc (little_bytes 2 (length ps)) (little_bytes 4 link) (tail))
      ∙ little_number-reads_back 2 (length ps) (little_bytes 4 link ++ tail) (omega arith)

  pub written_link : link_said (written_page level link ps) ≡ link
  unfolding link_said written_page front_bytes tail
  written_link =
      sym (little_shift 0 4 4 (front_bytes level (length ps) link ++ tail))
      ∙ ap (λ (l : List ℕ). little_from 0 4 (drop 2 l)) (append_assoc (little_bytes 2 (length ps)) (little_bytes 4 link) (tail))
      ∙ ap (little_from 0 4) (drop_at (little_bytes 2 (length ps)) (little_bytes 4 link ++ tail) 2 (length-bytes_low_first 0 2 (length ps)))
      ∙ little_number-reads_back 4 link tail fits

  pub written_pairs : AreSmall ps → pairs_said (written_page level link ps) ≡ ps
  unfolding pairs_said written_page tail
  written_pairs small =
      ap (λ (n : ℕ). pairs_from (written_page level link ps) 0 n) written_count
      ∙ pairs_back (written_page level link ps) (replicate (504 - 16 * length ps) 0) 0 ps small (drop_at (front_bytes level (length ps) link) tail 8 (length-front level (length ps) link))

  pub length-written_page : length (written_page level link ps) ≡ 512
  unfolding written_page
  length-written_page = omega (arith, length-append (front_bytes level (length ps) link) (pairs_bytes ps ++ replicate (504 - 16 * length ps) 0), length-front level (length ps) link, length-append (pairs_bytes ps) (replicate (504 - 16 * length ps) 0), length-pairs_bytes ps, length_replicate (504 - 16 * length ps))
    where
      length_replicate : (n : ℕ) → length {A = ℕ} (replicate n 0) ≡ n
      length_replicate zero = refl
      length_replicate (suc n) = ap suc (length_replicate n)

pub small_more : (ps : List Pair) (p : Pair) → AreSmall ps → p.0 < 2 ^ 64 → p.1 < 2 ^ 64 → AreSmall (ps ++ p ∷ [])
small_more [] p small a b = (a, b, tt)
small_more (q ∷ qs) p small a b = (small.0, small.1, small_more qs p small.2 a b)

pub small_take : (n : ℕ) (ps : List Pair) → AreSmall ps → AreSmall (take n ps) × AreSmall (drop n ps)
small_take zero ps small = (tt, small)
small_take (suc n) [] small = (tt, tt)
small_take (suc n) (p ∷ ps) small = let rest = small_take n ps small.2 in ((small.0, small.1, rest.0), rest.1)

pub small_inserted : (key to : ℕ) (ps : List Pair) → AreSmall ps → key < 2 ^ 64 → to < 2 ^ 64 → AreSmall (inserted ps key to)
small_inserted key to [] small a b = (a, b, tt)
small_inserted key to (p ∷ ps) small a b = elim (leb_tells (suc key) p.0) [
  | inl h ↦ let e : nat_lt key p.0 ≡ true = h.0 in rw e (a, b, small)
  | inr h ↦ let e : nat_lt key p.0 ≡ false = h.0 in rw e (small.0, small.1, small_inserted key to ps small.2 a b)
]

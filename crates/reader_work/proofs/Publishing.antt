-- What a feed has published of what its pass has seen.
use Rattle.std.proofs.Common.{◌≡◌, ℕ, ◌+◌, List, [], ◌∷◌, ◌++◌, length, drop, refl, sym, ap, ◌∙◌, subst, arith, inl, inr}
use Rattle.std.specs.Prelude.{◌⊎◌, Bool, Result, Ok, Err, IfOk, OnErr}
use Rattle.mars_base.specs.declared.NoMemory.{NoMemory}
use Rattle.snapshot_readers.specs.Feeds.{told}
use Rattle.snapshot_readers.specs.declared.feed.Receipt.{Receipt}
use Rattle.caller_steps.specs.Core.{CoreView}
use Rattle.caller_steps.specs.Prefix.{Grows}
use Rattle.history.specs.declared.transaction.Done.{Done}
use Rattle.mars_manager.specs.declared.view.Known.{Known}
use Rattle.mars_manager.specs.Pass.{finds}
use Rattle.mars_manager.specs.Sharing.{Reads}
use Rattle.reader_work.specs.News.{HadTurn}
use Rattle.snapshot_readers.specs.Batches.{Batch, joined, with_batch}
use Rattle.snapshot_readers.proofs.Joining.{joined-more}

-- a front of a list is one of a longer one
pub grown : {A : Type 0} (xs seen more : List A) → xs ++ drop (length xs) seen ≡ seen → xs ++ drop (length xs) (seen ++ more) ≡ seen ++ more
grown [] seen more is = refl
grown (x ∷ xs) [] more is = absurd (cc is)
grown (x ∷ xs) (y ∷ ys) more is =
    let heads : x ≡ y = cc is in
    let tails : xs ++ drop (length xs) ys ≡ ys = cc is in
    let rest = grown xs ys more tails in cc (heads, rest)

-- a list is a front of itself
pub itself : {A : Type 0} (xs : List A) → xs ++ drop (length xs) xs ≡ xs
itself [] = refl
itself (x ∷ xs) = ap (λ ys. x ∷ ys) (itself xs)

pub grows : (xs was now : List Done) → xs ++ drop (length xs) was ≡ was → Grows was now → xs ++ drop (length xs) now ≡ now
grows xs was now is more = subst (λ (l : List Done). xs ++ drop (length xs) l ≡ l) (sym more.is) (grown xs was more.more is)

-- with all that is left of the list fed behind it, the front is the whole list
pub all_fed : (was now : List Batch) (seen news : List Done) → joined was ++ drop (length (joined was)) seen ≡ seen → news ≡ drop (length (joined was)) seen → now ≡ with_batch was news → joined now ≡ seen
all_fed was now seen news behind is fed = ap joined fed ∙ joined-more was news ∙ ap (λ (l : List Done). joined was ++ l) is ∙ behind

pub whole : (now : List Batch) (seen : List Done) → joined now ≡ seen → joined now ++ drop (length (joined now)) seen ≡ seen
whole now seen is = subst (λ (l : List Done). joined now ++ drop (length (joined now)) l ≡ l) is (itself (joined now))

-- at a lack of memory either nothing or all of it was fed
pub some_fed : (was now : List Batch) (seen news : List Done) → joined was ++ drop (length (joined was)) seen ≡ seen → news ≡ drop (length (joined was)) seen → (now ≡ was) ⊎ (now ≡ with_batch was news)
    → joined now ++ drop (length (joined now)) seen ≡ seen
some_fed was now seen news behind is (inl same) = subst (λ (l : List Batch). joined l ++ drop (length (joined l)) seen ≡ seen) (sym same) behind
some_fed was now seen news behind is (inr fed) = whole now seen (all_fed was now seen news behind is fed)

-- so what was fed stays a front, whatever a feed of the next transactions answers
pub fed_after : (r : Result Receipt NoMemory) (was now : List Batch) (seen news : List Done) (P Q : Receipt → Type 0) (R : Type 0) → joined was ++ drop (length (joined was)) seen ≡ seen → news ≡ drop (length (joined was)) seen
    → IfOk r (λ receipt. (told receipt ≡ with_batch was news) × P receipt × (now ≡ told receipt) × Q receipt) → OnErr r (R × ((now ≡ was) ⊎ (now ≡ with_batch was news))) → joined now ++ drop (length (joined now)) seen ≡ seen
fed_after (Ok receipt) was now seen news P Q R behind is ok err = whole now seen (all_fed was now seen news behind is (ok.2 ∙ ok.0))
fed_after (Err none) was now seen news P Q R behind is ok err = some_fed was now seen news behind is err.1

module _ {C : Type 0} where
  -- a pass that has tried for its turn in vain
  abbrev pub IsInVain : Known C → Known C → Type 0
  IsInVain was now = (found : ℕ) × (vain : ℕ) × (now ≡ record was { found = found; tries = was.tries + vain })

  pub not_tried : (was : Known C) → IsInVain was was
  not_tried was = let none : was.tries ≡ was.tries + 0 = omega arith in (was.found, 0, ap (λ (n : ℕ). record was { tries = n }) none)

  pub tried_once_more : (was now next : Known C) (n : ℕ) → IsInVain was now → next ≡ finds n now → IsInVain was next
  tried_once_more was now next n (found, vain, is) again =
      let more : was.tries + vain + 1 ≡ was.tries + (vain + 1) = omega arith in
      (n, vain + 1, again ∙ ap (λ (k : Known C). finds n k) is ∙ ap (λ (m : ℕ). record was { found = n; tries = m }) more)

  pub had_turn : (tells : Bool) (show : C → CoreView) (was now next : Known C) → IsInVain was now → Reads tells show now next → HadTurn tells show was next
  had_turn tells show was now next (found, vain, is) reads = (found, vain, subst (λ (k : Known C). Reads tells show k next) is reads)

-- Calls and transactions that are right one after another.
use Rattle.std.proofs.Common.{◌≡◌, ℕ, zero, suc, ◌+◌, ◌<◌, List, [], ◌∷◌, ◌++◌, length, take, get_or, sym, ap, subst, ◌∙◌, arith}
use Rattle.std.proofs.lemmas.List.{take_more, length-take-le}
use Rattle.history.specs.Writes.{Table}
use Rattle.history.specs.Table.{Granted, Work, Answers, after, worked, IsRightFrom, IsRight, left_by}
use Rattle.history.specs.Legal.{records, IsLegalFrom, IsLegal}
use Rattle.history.specs.declared.call.TableCall.{TableCall}
use Rattle.history.specs.declared.call.Reply.{Reply}
use Rattle.history.specs.declared.transaction.Done.{Done}
use Rattle.history.proofs.OneMore.{IsLegal-push, records-push}

-- one more transaction that has the next number and is right
pub legal-next : (base : Table) (history : List Done) (i : ℕ) (done : Done) → i < length history → done ≡ get_or history i done
    → IsLegal base (take i history) → done.at ≡ i + 1 → IsRight (records base (take i history)) done.calls → IsLegal base (take (i + 1) history)
legal-next base history i done within at legal number right =
    let long : length (take i history) ≡ i = length-take-le i history (omega (arith, within)) in
    subst (λ h. IsLegal base h) (ap (λ (d : Done). take i history ++ d ∷ []) at ∙ sym (take_more history i done within))
    (IsLegal-push base (take i history) done legal (number ∙ ap (λ (k : ℕ). k + 1) (sym long)) right)

pub records-next : (base : Table) (history : List Done) (i : ℕ) (done : Done) → i < length history → done ≡ get_or history i done
    → records base (take (i + 1) history) ≡ left_by (records base (take i history)) done.calls
records-next base history i done within at =
    ap (records base) (take_more history i done within ∙ ap (λ (d : Done). take i history ++ d ∷ []) (sym at)) ∙ records-push base (take i history) done

-- each transaction of a legal history has its number and is right
legal_from_at : (n : ℕ) (base : Table) (history : List Done) (i : ℕ) (done : Done) → i < length history → IsLegalFrom n base history
    → ((get_or history i done).at ≡ n + i) × IsRight (records base (take i history)) (get_or history i done).calls
legal_from_at n base [] i done within legal = absurd (omega (arith, within))
legal_from_at n base (first ∷ history) zero done within legal = (omega (arith, legal.0), legal.1)
legal_from_at n base (first ∷ history) (suc i) done within legal =
    let rest = legal_from_at (n + 1) (left_by base first.calls) history i done (omega (arith, within)) legal.2 in
    (omega (arith, rest.0), rest.1)

pub legal_at : (base : Table) (history : List Done) (i : ℕ) (done : Done) → i < length history → IsLegal base history
    → ((get_or history i done).at ≡ i + 1) × IsRight (records base (take i history)) (get_or history i done).calls
legal_at base history i done within legal = let both = legal_from_at 1 base history i done within legal in (omega (arith, both.0), both.1)

module _ (work : Work) (left rest : Granted) (call : TableCall) (reply : Reply) (front : left ≡ (call, reply) ∷ rest) where
  -- Where calls are right, the first gets the right reply, and those behind it are right,
  pub right_front : IsRightFrom work left → Answers work call reply × IsRightFrom (after work call) rest
  right_front right = subst (λ calls. IsRightFrom work calls) front right

  -- and the other way round.
  pub right_again : Answers work call reply → IsRightFrom (after work call) rest → IsRightFrom work left
  right_again answers right = subst (λ calls. IsRightFrom work calls) (sym front) (answers, right)

  -- Made first, it leaves what those behind it come from.
  pub made_front : worked (after work call) rest ≡ worked work left
  made_front = sym (ap (worked work) front)

module _ (base : Table) (history : List Done) (i : ℕ) (done : Done) (within : i < length history) (at : done ≡ get_or history i done) (table : Table) (made : table ≡ records base (take i history)) where
  pub left-next : (later : Table) → later ≡ left_by table done.calls → later ≡ records base (take (i + 1) history)
  left-next later is = is ∙ ap (λ (t : Table). left_by t done.calls) made ∙ sym (records-next base history i done within at)

  pub stays_legal : IsLegal base (take i history) → done.at ≡ i + 1 → IsRight table done.calls → IsLegal base (take (i + 1) history)
  stays_legal legal number right = legal-next base history i done within at legal number (subst (λ t. IsRight t done.calls) made right)

  -- with another number or with calls that are not right, the history is not legal
  pub is_misnumbered : (done.at ≡ i + 1 → ⊥) → IsLegal base history → ⊥
  is_misnumbered other legal = other (subst (λ (d : Done). d.at ≡ i + 1) (sym at) (legal_at base history i done within legal).0)

  pub is_illegal : (IsRight table done.calls → ⊥) → IsLegal base history → ⊥
  is_illegal wrong legal = wrong (subst (λ t. IsRight t done.calls) (sym made)
      (subst (λ (d : Done). IsRight (records base (take i history)) d.calls) (sym at) (legal_at base history i done within legal).1))

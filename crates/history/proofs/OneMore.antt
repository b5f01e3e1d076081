-- One more call of a transaction, and one more transaction of a history.
use Rattle.std.proofs.Common.{◌≡◌, ℕ, Bool, true, false, ◌||◌, ◌+◌, List, [], ◌∷◌, ◌++◌, length, refl, ap, ◌∙◌, arith}
use Rattle.std.specs.List.{fold}
use Rattle.history.specs.Writes.{Table}
use Rattle.history.specs.Table.{Granted, Work, begun, Answers, after, worked, left_by, IsRightFrom, IsRight}
use Rattle.history.specs.Legal.{records, IsLegalFrom, IsLegal}
use Rattle.history.specs.declared.locks.Mode.{Mode}
use Rattle.history.specs.Locks.{touches, touched}
use Rattle.history.specs.Log.{Log, log_after, log_of}
use Rattle.history.specs.declared.call.TableCall.{TableCall}
use Rattle.history.specs.declared.call.Reply.{Reply}
use Rattle.history.specs.declared.transaction.Done.{Done}
use Rattle.std.proofs.lemmas.List.Folds.{list_any-append}

or_none : (b : Bool) → (b || false) ≡ b
or_none true = refl
or_none false = refl

fold-push : {A X : Type 0} (f : A → X → A) → (a : A) (xs : List X) (x : X) → fold f a (xs ++ x ∷ []) ≡ f (fold f a xs) x
fold-push f a [] x = refl
fold-push f a (y ∷ xs) x = fold-push f (f a y) xs x

fold-append : {A X : Type 0} (f : A → X → A) → (a : A) (xs ys : List X) → fold f a (xs ++ ys) ≡ fold f (fold f a xs) ys
fold-append f a [] ys = refl
fold-append f a (x ∷ xs) ys = fold-append f (f a x) xs ys

-- the last call changes what the others leave
pub worked-push : (work : Work) (calls : Granted) (call : TableCall) (reply : Reply) → worked work (calls ++ (call, reply) ∷ []) ≡ after (worked work calls) call
worked-push work calls call reply = fold-push (λ (was : Work) (entry : TableCall × Reply). after was entry.0) work calls (call, reply)

pub left_by-push : (table : Table) (calls : Granted) (call : TableCall) (reply : Reply)
    → left_by table (calls ++ (call, reply) ∷ []) ≡ (after (worked (begun table) calls) call).table
left_by-push table calls call reply = ap (λ (work : Work). work.table) (worked-push (begun table) calls call reply)

-- the last call changes the log of the others
pub log_of-push : (calls : Granted) (call : TableCall) (reply : Reply) → log_of (calls ++ (call, reply) ∷ []) ≡ log_after (log_of calls) call reply
log_of-push calls call reply = fold-push (λ (was : Log) (entry : TableCall × Reply). log_after was entry.0 entry.1) (record { writes = []; saved = [] }) calls (call, reply)

touched_more : (names : List (List ℕ)) (calls : Granted) (call : TableCall) (reply : Reply) (stripe : ℕ) (mode : Mode)
    → touched names (calls ++ (call, reply) ∷ []) stripe mode ≡ (touched names calls stripe mode || touches names call stripe mode)
touched_more names calls call reply stripe mode =
    list_any-append (λ (entry : TableCall × Reply). touches names entry.0 stripe mode) calls ((call, reply) ∷ [])
    ∙ ap (λ (b : Bool). touched names calls stripe mode || b) (or_none (touches names call stripe mode))

-- the last call adds what it touches
pub touched-push : (names : List (List ℕ)) (calls : Granted) (call : TableCall) (reply : Reply) (stripe : ℕ)
    → touched names (calls ++ (call, reply) ∷ []) stripe ≡ (λ mode. touched names calls stripe mode || touches names call stripe mode)
touched-push names calls call reply stripe i mode = touched_more names calls call reply stripe mode i

-- calls stay right with one more, whose reply is right for what they leave
pub IsRightFrom-push : (work : Work) (calls : Granted) (call : TableCall) (reply : Reply)
    → IsRightFrom work calls → Answers (worked work calls) call reply → IsRightFrom work (calls ++ (call, reply) ∷ [])
IsRightFrom-push work [] call reply right answers = (answers, tt)
IsRightFrom-push work (entry ∷ calls) call reply right answers = (right.0, IsRightFrom-push (after work entry.0) calls call reply right.1 answers)

pub IsRight-push : (table : Table) (calls : Granted) (call : TableCall) (reply : Reply)
    → IsRight table calls → Answers (worked (begun table) calls) call reply → IsRight table (calls ++ (call, reply) ∷ [])
IsRight-push table calls call reply right answers = IsRightFrom-push (begun table) calls call reply right answers

-- the last transaction changes the table that the others leave
pub records-push : (base : Table) (history : List Done) (done : Done) → records base (history ++ done ∷ []) ≡ left_by (records base history) done.calls
records-push base history done = fold-push (λ (was : Table) (next : Done). left_by was next.calls) base history done

-- the records of a longer history are those of its first transactions, changed by the others
pub records-append : (base : Table) (history more : List Done) → records base (history ++ more) ≡ records (records base history) more
records-append base history more = fold-append (λ (was : Table) (next : Done). left_by was next.calls) base history more

-- a history stays legal with one more transaction, if that has the next number and is right on the records
pub IsLegalFrom-push : (n : ℕ) (base : Table) (history : List Done) (done : Done)
    → IsLegalFrom n base history → done.at ≡ length history + n → IsRight (records base history) done.calls → IsLegalFrom n base (history ++ done ∷ [])
IsLegalFrom-push n base [] done legal at right = (omega arith, right, tt)
IsLegalFrom-push n base (first ∷ history) done legal at right =
    (legal.0, legal.1, IsLegalFrom-push (n + 1) (left_by base first.calls) history done legal.2 (omega arith) right)

pub IsLegal-push : (base : Table) (history : List Done) (done : Done)
    → IsLegal base history → done.at ≡ length history + 1 → IsRight (records base history) done.calls → IsLegal base (history ++ done ∷ [])
IsLegal-push base history done legal at right = IsLegalFrom-push 1 base history done legal at right

IsLegalFrom-front : (n : ℕ) (base : Table) (history more : List Done) → IsLegalFrom n base (history ++ more) → IsLegalFrom n base history
IsLegalFrom-front n base [] more legal = tt
IsLegalFrom-front n base (done ∷ history) more legal = (legal.0, legal.1, IsLegalFrom-front (n + 1) (left_by base done.calls) history more legal.2)

-- a prefix of a legal history is legal
pub IsLegal-front : (base : Table) (history more : List Done) → IsLegal base (history ++ more) → IsLegal base history
IsLegal-front base history more legal = IsLegalFrom-front 1 base history more legal

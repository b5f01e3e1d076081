use Rattle.std.proofs.Common.{◌≡◌, ◌↔◌, ◌+◌, ◌<◌, ◌++◌, List, [], ◌∷◌, length, Option, Some, None, append_assoc, length-append, arith, refl, sym, ap, ◌∙◌, subst}
use Rattle.std.specs.Prelude.{All, IfSome, IsSome, IsNone}
use Rattle.std.specs.Option.{option_to_list}
use Rattle.std.proofs.lemmas.List.{map-append}
use Rattle.std.proofs.lemmas.List.Elements.{All-push, All-pop}
use Rattle.history.specs.declared.key.Key.{Key}
use Rattle.snapshot_readers.specs.Feeds.{IsFresh}
use Rattle.snapshot_readers.specs.declared.reader.Reader.{Reader}
use Rattle.reader_work.specs.Readership.{keys_of, IsReady}
use Rattle.reader_work.specs.declared.reading.ReadWorker.{ReadWorker}
use Rattle.reader_work.proofs.readership.hire_readers.Goals as goal

some_left : (o : Option Reader) (was : List Reader) → IsNone o ↔ (was ≡ []) → 0 < length was → IsSome o
some_left None was none some = absurd (let e = ap (λ (l : List Reader). length l) (none.0 refl) in omega (arith, e, some))
some_left (Some reader) was none some = refl

pub unwrap-reader-requires : goal.unwrap-reader-requires
unwrap-reader-requires c =
    let i = c.loop-keys.invariant in
    let e = ap (λ (l : List (List Key)). length l) c.in-Some.ensures.steps.0 in
    some_left c.pop.result c.loop-keys.readers c.pop.ensures.empty (let n = i.count in omega (arith, e, n))

kept : (workers : List ReadWorker) (worker : ReadWorker) (rest left all : List (List Key)) → rest ≡ worker.keys ∷ left → keys_of workers ++ rest ≡ all → keys_of (workers ++ worker ∷ []) ++ left ≡ all
kept workers worker rest left all e is =
    ap (λ (l : List (List Key)). l ++ left) (map-append (λ (w : ReadWorker). w.keys) workers (worker ∷ [])) ∙ append_assoc (keys_of workers) (worker.keys ∷ []) left
    ∙ ap (λ (l : List (List Key)). keys_of workers ++ l) (sym e) ∙ is

fewer : (o : Option Reader) (reader : Reader) (was now : List Reader) → was ≡ now ++ option_to_list o → o ≡ Some reader → length was ≡ length now + 1
fewer o reader was now e is = ap (λ (l : List Reader). length l) (e ∙ ap (λ (p : Option Reader). now ++ option_to_list p) is) ∙ length-append now (reader ∷ [])

pub loop-keys-preserved : goal.loop-keys-preserved
loop-keys-preserved c =
    let i = c.loop-keys.invariant in
    let rest = c.in-Some.ensures.steps.0 in
    let worker : ReadWorker = record { number = _; reader = c.unwrap-reader.result; names = c.copy.result; keys = c.in-Some.keys; answers = c.in_ok-answers.answers; told = c.new.result } in
    let items = c.push_reserved.ensures.items in
    let e = ap (λ (l : List (List Key)). length l) rest in
    let less = fewer c.pop.result c.unwrap-reader.result c.loop-keys.readers c.pop.new.self c.pop.ensures.last c.unwrap-reader.ensures in
    let more = ap (λ (l : List ReadWorker). length l) items ∙ length-append c.loop-keys.workers.items (worker ∷ []) in
    record {
      keys = ap (λ (l : List ReadWorker). keys_of l ++ c.next.new.self.rest.items) items ∙ kept c.loop-keys.workers.items worker _ _ c.args.asks.items rest i.keys;
      count = (let n = i.count in omega (arith, e, less, n));
      room = c.push_reserved.ensures.capacity ∙ i.room;
      many = (let n = i.many in omega (arith, e, more, n));
      fresh = λ book base all. (All-pop (IsFresh book base) c.loop-keys.readers c.pop.new.self c.pop.result c.pop.ensures.last (i.fresh book base all)).0;
      ready = λ book base all. subst (All (IsReady c.args.names.now book base)) (sym items) (All-push (IsReady c.args.names.now book base) c.loop-keys.workers.items worker (i.ready book base all) (record {
        fresh = subst (λ (o : Option Reader). IfSome o (IsFresh book base)) c.unwrap-reader.ensures (All-pop (IsFresh book base) c.loop-keys.readers c.pop.new.self c.pop.result c.pop.ensures.last (i.fresh book base all)).1;
        named = c.copy.ensures;
        can = record { none = c.in_ok-answers.ensures.items; room = omega (arith, c.in_ok-answers.ensures) };
      }));
    }

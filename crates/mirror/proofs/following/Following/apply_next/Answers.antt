use Rattle.std.proofs.Common.{ℕ, List, ◌≡◌, ◌-◌, length, take, drop, inl, inr, refl, sym, ◌∙◌, ap, arith}
use Rattle.std.proofs.lemmas.List.{take_all, length-drop}
use Rattle.mars_base.proofs.Going.{stays}
use Rattle.byteorder.specs.Endian.{little_number}
use Rattle.mirror.specs.Following.{OpensNext}
use Rattle.mirror.proofs.Streams.{sequence_said, applied_next, next_moments}
use Rattle.mirror.proofs.following.Following.apply_next.Goals as goal

-- the number in the bytes from the fifth on
got_is : (n : ℕ) (l bytes : List ℕ) → l ≡ bytes → n ≡ little_number 8 (take (length l - 4) (drop 4 l)) → n ≡ little_number 8 (drop 4 bytes)
got_is n l bytes same is =
    is
    ∙ ap (λ (m : List ℕ). little_number 8 m) (take_all (length l - 4) (drop 4 l) (let e = length-drop 4 l in omega (arith, e)))
    ∙ ap (λ (m : List ℕ). little_number 8 (drop 4 m)) same

pub returns-in_default-clause-fault : goal.returns-in_default-clause-fault
returns-in_default-clause-fault g c =
    let store = g.S.EawStore.view c.args.self.now.store in
    let bytes = c.args.self.now.reader.bytes.items in
    let got = got_is c.read_u64-got.result c.deref.result.now bytes c.deref.ensures.value c.read_u64-got.ensures in
    let behind = c.in_default.ensures in
    (refl, refl, refl, refl, refl, (λ f. sym (sequence_said store.shape bytes f) ∙ sym got), record { other = inr (omega (arith, behind), refl) })

pub returns-in_default-clause-moments : goal.returns-in_default-clause-moments
returns-in_default-clause-moments g c told =
    let s = g.S.EawStore in
    let store = s.view c.args.self.now.store in
    stays store.moment store.left_since (OpensNext s.opens c.args.self.now.applied c.args.self.now.reader.bytes.items store)

pub returns-then-got-expected-clause-fault : goal.returns-then-got-expected-clause-fault
returns-then-got-expected-clause-fault g c =
    let store = g.S.EawStore.view c.args.self.now.store in
    let bytes = c.args.self.now.reader.bytes.items in
    let got = got_is c.read_u64-got.result c.deref.result.now bytes c.deref.ensures.value c.read_u64-got.ensures in
    let next = c.in-Some.ensures in
    (refl, refl, refl, refl, refl, (λ f. sym (sequence_said store.shape bytes f) ∙ sym got), record { other = inl (next.1, omega (arith, next.0, next.1), c.if-got-expected.true) })

pub returns-then-got-expected-clause-moments : goal.returns-then-got-expected-clause-moments
returns-then-got-expected-clause-moments g c told =
    let s = g.S.EawStore in
    let store = s.view c.args.self.now.store in
    stays store.moment store.left_since (OpensNext s.opens c.args.self.now.applied c.args.self.now.reader.bytes.items store)

pub returns-in-Ok-clause-next : goal.returns-in-Ok-clause-next
returns-in-Ok-clause-next g c =
    let s = g.S.EawStore in
    let bytes = c.args.self.now.reader.bytes.items in
    let got = got_is c.read_u64-got.result c.deref.result.now bytes c.deref.ensures.value c.read_u64-got.ensures in
    let is_next = sym got ∙ c.if-got-expected.false ∙ c.in-Some.ensures.1 in
    applied_next s.tells c.args.self.now.applied c.deref-2.result.now bytes (s.view c.args.self.now.store) (s.view c.apply_frame.new.store) c.deref-2.ensures.value is_next c.in-Ok.ensures.applied

pub returns-in-Ok-clause-moments : goal.returns-in-Ok-clause-moments
returns-in-Ok-clause-moments g c told =
    let s = g.S.EawStore in
    let bytes = c.args.self.now.reader.bytes.items in
    let got = got_is c.read_u64-got.result c.deref.result.now bytes c.deref.ensures.value c.read_u64-got.ensures in
    let is_next = sym got ∙ c.if-got-expected.false ∙ c.in-Some.ensures.1 in
    next_moments s.opens c.args.self.now.applied c.deref-2.result.now bytes (s.view c.args.self.now.store) (s.view c.apply_frame.new.store) c.deref-2.ensures.value is_next (c.apply_frame.ensures.moments told)

pub returns-in-Err-clause-fault : goal.returns-in-Err-clause-fault
returns-in-Err-clause-fault g c = c.in-Err.ensures.fault.1

pub returns-in-Err-clause-moments : goal.returns-in-Err-clause-moments
returns-in-Err-clause-moments g c told =
    let s = g.S.EawStore in
    let bytes = c.args.self.now.reader.bytes.items in
    let got = got_is c.read_u64-got.result c.deref.result.now bytes c.deref.ensures.value c.read_u64-got.ensures in
    let is_next = sym got ∙ c.if-got-expected.false ∙ c.in-Some.ensures.1 in
    next_moments s.opens c.args.self.now.applied c.deref-2.result.now bytes (s.view c.args.self.now.store) (s.view c.apply_frame.new.store) c.deref-2.ensures.value is_next (c.apply_frame.ensures.moments told)

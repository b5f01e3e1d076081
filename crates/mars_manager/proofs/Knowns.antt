-- What a step on a stripe changes of what a pass knows.
use Rattle.std.proofs.Common.{◌≡◌, ◌≢◌, ◌⊎◌, ℕ, zero, suc, ◌+◌, ◌/◌, ◌^◌, ◌<◌, ◌≤◌, eqb, Bool, true, false, List, [], ◌∷◌, ◌++◌, length, set, get_or, replicate, refl, sym, ap, ◌∙◌, subst, inl, inr, ⊎_elim, arith, length-set, get_or-set_same, get_or-set_other, append_assoc}
use Rattle.std.specs.Prelude.{IsTrue, if◌then◌else◌}
use mathlib.Core.Logic.{dite}
use native.Mathlib.Decide.{dec_le, ℕ_discrete}
use mathlib.Core.List.{append-nil}
use Rattle.std.proofs.lemmas.List.{set-set, set-get_or}
use Rattle.history.specs.Locks.{Touch}
use Rattle.history.specs.declared.locks.Mode.{Mode}
use Rattle.history.specs.declared.locks.Mode.TheVariants as mode
use Rattle.stripe_words.specs.declared.hold.Hold.{Hold}
use Rattle.stripe_words.specs.declared.hold.Hold.TheVariants.{Free, Trying, Shared, Exclusive}
use Rattle.stripe_words.specs.Words.{granted, locked, gained, raised, Refuses}
use Rattle.mars_manager.specs.declared.view.Met.{Met}
use Rattle.mars_manager.specs.declared.view.Known.{Known}
use Rattle.mars_manager.specs.Locks.{IsCovered, IsBelow, raised_for, met, touched_by, hold_of, with_holds, with_hold, with_locks, noted, marked_by, excluded_by, IsUnwritten, IsUntouched, HasLocked, HasReadable, IsRefused}

-- lists of holds
held_back : (hs : List Hold) (t : ℕ) (x : Hold) → get_or hs t Free ≡ Free → set (set hs t x) t Free ≡ hs
held_back hs t x e = set-set hs t x Free ∙ ap (set hs t) (sym e) ∙ set-get_or hs t Free

raised_same : (x : Hold) → x ≢ Free → x ≢ Trying → raised mode.Shared x ≡ x
raised_same Free f t = absurd (f refl)
raised_same Trying f t = absurd (t refl)
raised_same Shared f t = refl
raised_same Exclusive f t = refl

both_notes : (ms : List Met) (a b : Met) → (ms ++ a ∷ []) ++ b ∷ [] ≡ ms ++ a ∷ b ∷ []
both_notes ms a b = append_assoc ms (a ∷ []) (b ∷ [])

-- the first n are those of hs, and the others those of ks
abbrev pub mixed : ℕ → List Hold → List Hold → List Hold
mixed zero hs ks = ks
mixed (suc n) [] ks = ks
mixed (suc n) (h ∷ hs) [] = []
mixed (suc n) (h ∷ hs) (k ∷ ks) = h ∷ mixed n hs ks

mixed_here : (n : ℕ) (hs ks : List Hold) → get_or (mixed n hs ks) n Free ≡ get_or ks n Free
mixed_here zero hs ks = refl
mixed_here (suc n) [] ks = refl
mixed_here (suc n) (h ∷ hs) [] = refl
mixed_here (suc n) (h ∷ hs) (k ∷ ks) = mixed_here n hs ks

mixed_set : (n : ℕ) (hs ks : List Hold) → n < length hs → length hs ≡ length ks → set (mixed n hs ks) n (get_or hs n Free) ≡ mixed (suc n) hs ks
mixed_set n [] ks l e = absurd (omega arith)
mixed_set n (h ∷ hs) [] l e = absurd (omega arith)
mixed_set zero (h ∷ hs) (k ∷ ks) l e = refl
mixed_set (suc n) (h ∷ hs) (k ∷ ks) l e = ap (λ (x : List Hold). h ∷ x) (mixed_set n hs ks (omega arith) (omega arith))

mixed_all : (n : ℕ) (hs ks : List Hold) → length hs ≡ n → length ks ≡ n → mixed n hs ks ≡ hs
mixed_all zero [] [] e f = refl
mixed_all zero [] (k ∷ ks) e f = absurd (omega arith)
mixed_all zero (h ∷ hs) ks e f = absurd (omega arith)
mixed_all (suc n) [] ks e f = absurd (omega arith)
mixed_all (suc n) (h ∷ hs) [] e f = absurd (omega arith)
mixed_all (suc n) (h ∷ hs) (k ∷ ks) e f = ap (λ (x : List Hold). h ∷ x) (mixed_all n hs ks (omega arith) (omega arith))

mixed_at : (n : ℕ) (hs ks : List Hold) (t : ℕ) → (get_or (mixed n hs ks) t Free ≡ get_or hs t Free) ⊎ (get_or (mixed n hs ks) t Free ≡ get_or ks t Free)
mixed_at zero hs ks t = inr refl
mixed_at (suc n) [] ks t = inr refl
mixed_at (suc n) (h ∷ hs) [] t = inr refl
mixed_at (suc n) (h ∷ hs) (k ∷ ks) zero = inl refl
mixed_at (suc n) (h ∷ hs) (k ∷ ks) (suc t) = mixed_at n hs ks t

covered_mixed : (touch : ℕ → Touch) (n : ℕ) (hs ks : List Hold) → IsCovered touch hs → IsCovered touch ks → IsCovered touch (mixed n hs ks)
covered_mixed touch n hs ks c d = record {
  reads = λ r a. ⊎_elim (λ (e : get_or (mixed n hs ks) r Free ≡ get_or hs r Free). ap granted e ∙ c.reads r a) (λ (e : get_or (mixed n hs ks) r Free ≡ get_or ks r Free). ap granted e ∙ d.reads r a) (mixed_at n hs ks r);
  writes = λ r a. ⊎_elim (λ (e : get_or (mixed n hs ks) r Free ≡ get_or hs r Free). ap locked e ∙ c.writes r a) (λ (e : get_or (mixed n hs ks) r Free ≡ get_or ks r Free). ap locked e ∙ d.writes r a) (mixed_at n hs ks r);
}

pub below_same : (x : Hold) → x ≢ Trying → IsBelow x x
below_same Free ne = tt
below_same Trying ne = absurd (ne refl)
below_same Shared ne = refl
below_same Exclusive ne = refl

pub below_raised : (touch : Touch) (x : Hold) → x ≢ Trying → IsBelow x (raised_for touch x)
below_raised touch x ne = go (touch mode.Exclusive) (touch mode.Shared) x ne
  where
    go : (writes reads : Bool) (x : Hold) → x ≢ Trying → IsBelow x (if writes then raised mode.Exclusive x else if reads then raised mode.Shared x else x)
    go true reads Free ne = tt
    go true reads Trying ne = absurd (ne refl)
    go true reads Shared ne = refl
    go true reads Exclusive ne = refl
    go false true Free ne = tt
    go false true Trying ne = absurd (ne refl)
    go false true Shared ne = refl
    go false true Exclusive ne = refl
    go false false x ne = below_same x ne

pub below_free : (n t : ℕ) (y : Hold) → IsBelow (get_or (replicate n Free) t Free) y
below_free zero t y = tt
below_free (suc n) zero y = tt
below_free (suc n) (suc t) y = below_free n t y

raised_below : (x : Hold) → x ≢ Trying → IsBelow x (raised mode.Shared x)
raised_below Free ne = tt
raised_below Trying ne = absurd (ne refl)
raised_below Shared ne = refl
raised_below Exclusive ne = refl

-- what is covered where one stripe is changed
covered_set : (touch : ℕ → Touch) (hs : List Hold) (t : ℕ) (x : Hold) → t < length hs → IsCovered touch hs → (IsTrue (touch t mode.Shared) → granted x ≡ 1) → (IsTrue (touch t mode.Exclusive) → locked x ≡ 1) → IsCovered touch (set hs t x)
covered_set touch hs t x l c reads writes = record {
  reads = λ r a. dite (ℕ_discrete r t)
      (λ (e : r ≡ t). ap (λ i. granted (get_or (set hs t x) i Free)) e ∙ ap granted (get_or-set_same hs t x Free l) ∙ reads (subst (λ i. IsTrue (touch i mode.Shared)) e a))
      (λ (ne : r ≢ t). ap granted (get_or-set_other hs t r x Free ne) ∙ c.reads r a);
  writes = λ r a. dite (ℕ_discrete r t)
      (λ (e : r ≡ t). ap (λ i. locked (get_or (set hs t x) i Free)) e ∙ ap locked (get_or-set_same hs t x Free l) ∙ writes (subst (λ i. IsTrue (touch i mode.Exclusive)) e a))
      (λ (ne : r ≢ t). ap locked (get_or-set_other hs t r x Free ne) ∙ c.writes r a);
}

module _ {C : Type 0} where
  abbrev pub Covered : Known C → Type 0
  Covered k = IsCovered (touched_by k) k.holds

  -- the step of a pass on the stripe t: it then has x of it
  pub record Moves (t : ℕ) (x : Hold) (k k' : Known C) : Type 0 where
    pub same : k' ≡ with_locks k'.holds k'.met k
    pub here : hold_of t k' ≡ x
    pub there : (r : ℕ) → r ≢ t → hold_of r k' ≡ hold_of r k
    pub long : length k'.holds ≡ 64
    pub covered : Covered k'

  pub number_moves : (t : ℕ) (x : Hold) (k k' : Known C) → Moves t x k k' → k'.number ≡ k.number
  number_moves t x k k' m = ap (λ (j : Known C). j.number) m.same

  moves_with : (t : ℕ) (x : Hold) (k : Known C) → t < 64 → length k.holds ≡ 64 → Covered k → (IsTrue (touched_by k t mode.Shared) → granted x ≡ 1) → (IsTrue (touched_by k t mode.Exclusive) → locked x ≡ 1) → Moves t x k (with_hold t x k)
  moves_with t x k l long c reads writes = record {
    same = refl;
    here = get_or-set_same k.holds t x Free (omega arith);
    there = λ r ne. get_or-set_other k.holds t r x Free ne;
    long = length-set k.holds t x ∙ long;
    covered = covered_set (touched_by k) k.holds t x (omega arith) c reads writes;
  }

  -- a step that notes the word which it found
  moves_noted : (t found : ℕ) (asked : Mode) (x : Hold) (k k' : Known C) → Moves t x k k' → Moves t x k (noted t asked found k')
  moves_noted t found asked x k k' m = record { same = ap (noted t asked found) m.same; here = m.here; there = m.there; long = m.long; covered = m.covered }

  -- a stripe that a pass has not is not touched
  unread_free : (t : ℕ) (k : Known C) → Covered k → granted (hold_of t k) ≡ 0 → IsTrue (touched_by k t mode.Shared) → ⊥
  unread_free t k c z a = let one = c.reads t a in absurd (omega arith)

  unwritten_low : (t : ℕ) (k : Known C) → Covered k → locked (hold_of t k) ≡ 0 → IsUnwritten t k
  unwritten_low t k c z a = let one = c.writes t a in absurd (omega arith)

  pub moves_mark : (t found : ℕ) (k : Known C) → t < 64 → length k.holds ≡ 64 → Covered k → hold_of t k ≡ Free → Moves t (gained (eqb (found / 2 ^ 32) 0)) k (marked_by t found k)
  moves_mark t found k l long c free =
      let x : Hold = gained (eqb (found / 2 ^ 32) 0) in
      moves_noted t found mode.Shared x k (with_hold t (gained (eqb (found / 2 ^ 32) 0)) k) (moves_with t x k l long c (λ a. absurd (unread_free t k c (ap granted free) a)) (λ a. absurd (unwritten_low t k c (ap locked free) a)))

  pub moves_exclude : (t found : ℕ) (k : Known C) → t < 64 → length k.holds ≡ 64 → Covered k → Moves t Exclusive k (excluded_by t found k)
  moves_exclude t found k l long c = moves_noted t found mode.Exclusive Exclusive k (with_hold t Exclusive k) (moves_with t Exclusive k l long c (λ _. refl) (λ _. refl))

  pub moves_note : (t found : ℕ) (k : Known C) → length k.holds ≡ 64 → Covered k → Moves t (hold_of t k) k (noted t mode.Exclusive found k)
  moves_note t found k long c = record { same = refl; here = refl; there = λ r ne. refl; long = long; covered = c }

  pub moves_release : (t : ℕ) (k : Known C) → t < 64 → length k.holds ≡ 64 → Covered k → IsUntouched t k → Moves t Free k (with_hold t Free k)
  moves_release t k l long c u = moves_with t Free k l long c (λ a. absurd (u.0 a)) (λ a. absurd (u.1 a))

  pub moves_undo : (t : ℕ) (k : Known C) → t < 64 → length k.holds ≡ 64 → Covered k → hold_of t k ≡ Trying → Moves t Free k (with_hold t Free k)
  moves_undo t k l long c try = moves_release t k l long c (unread_free t k c (ap granted try), unwritten_low t k c (ap locked try))

  pub moves_back : (t : ℕ) (k : Known C) → t < 64 → length k.holds ≡ 64 → Covered k → IsUnwritten t k → Moves t Shared k (with_hold t Shared k)
  moves_back t k l long c u = moves_with t Shared k l long c (λ _. refl) (λ a. absurd (u a))

  -- a try that is undone leaves what was there
  pub try_undone : (t found : ℕ) (k : Known C) → hold_of t k ≡ Free → with_hold t Free (marked_by t found k) ≡ noted t mode.Shared found k
  try_undone t found k free = let F : List Hold → Known C = λ hs. with_locks hs (k.met ++ met t mode.Shared found ∷ []) k in ap F (held_back k.holds t (gained (eqb (found / 2 ^ 32) 0)) free)

  -- a stripe that is held as asked for
  pub held_before : (m : Mode) (t : ℕ) (k : Known C) → raised m (hold_of t k) ≡ hold_of t k → HasLocked m t k k
  held_before m t k e = record {
    more = [];
    is = (let hs : k.holds ≡ set k.holds t (raised m (hold_of t k)) = sym (ap (set k.holds t) e ∙ set-get_or k.holds t Free) in λ i. with_locks (hs i) (sym (append-nil k.met) i) k);
  }

  pub held_shared : (t : ℕ) (k : Known C) → hold_of t k ≢ Free → hold_of t k ≢ Trying → HasLocked mode.Shared t k k
  held_shared t k f n = held_before mode.Shared t k (raised_same (hold_of t k) f n)

  -- a mark and then the exclusive lock
  pub locked_twice : (t f g : ℕ) (k : Known C) → HasLocked mode.Exclusive t k (excluded_by t g (noted t mode.Shared f (with_hold t Shared k)))
  locked_twice t f g k = record {
    more = met t mode.Shared f ∷ met t mode.Exclusive g ∷ [];
    is = λ i. with_locks (set-set k.holds t Shared Exclusive i) (both_notes k.met (met t mode.Shared f) (met t mode.Exclusive g) i) k;
  }

  -- a mark, a failed exclusive step, and the mark given back
  pub refused_twice : (t f g : ℕ) (k : Known C) → hold_of t k ≡ Free → with_hold t Free (noted t mode.Exclusive g (noted t mode.Shared f (with_hold t Shared k))) ≡ with_locks k.holds (k.met ++ ((met t mode.Shared f ∷ []) ++ met t mode.Exclusive g ∷ [])) k
  refused_twice t f g k free = λ i. with_locks (held_back k.holds t Shared free i) (both_notes k.met (met t mode.Shared f) (met t mode.Exclusive g) i) k

  -- a stripe may be given up where the pass is then covered
  pub untouched_from : (t : ℕ) (x : Hold) (k : Known C) → t < 64 → length k.holds ≡ 64 → x ≡ Free → IsCovered (touched_by k) (set k.holds t x) → IsUntouched t k
  untouched_from t x k l long e c =
      let z = get_or-set_same k.holds t x Free (omega arith) ∙ e in
      ((λ a. let one = c.reads t a in let no = ap granted z in absurd (omega arith)), (λ a. let one = c.writes t a in let no = ap locked z in absurd (omega arith)))

  pub unwritten_from : (t : ℕ) (x : Hold) (k : Known C) → t < 64 → length k.holds ≡ 64 → x ≡ Shared → IsCovered (touched_by k) (set k.holds t x) → IsUnwritten t k
  unwritten_from t x k l long e c a = let z = get_or-set_same k.holds t x Free (omega arith) ∙ e in let one = c.writes t a in let no = ap locked z in absurd (omega arith)

  -- lowering one more stripe
  pub lower_one : (hs : List Hold) (t n : ℕ) (k k' : Known C) → n ≡ t → ((r : ℕ) → IsBelow (get_or hs r Free) (hold_of r k)) → k' ≡ with_holds (mixed t hs k.holds) k → IsBelow (get_or hs n Free) (hold_of t k')
  lower_one hs t n k k' e b is = subst (λ (p : ℕ × Hold). IsBelow (get_or hs p.0 Free) p.1) (λ i. (sym e i, sym (ap (hold_of t) is ∙ mixed_here t hs k.holds) i)) (b t)

  lowered : (hs : List Hold) (t n : ℕ) (k k' : Known C) → n ≡ t → t < 64 → length hs ≡ 64 → length k.holds ≡ 64 → k' ≡ with_holds (mixed t hs k.holds) k → with_hold t (get_or hs n Free) k' ≡ with_holds (mixed (suc t) hs k.holds) k
  lowered hs t n k k' e l a b is = (λ i. with_hold t (get_or hs (e i) Free) (is i)) ∙ ap (λ (x : List Hold). with_holds x k) (mixed_set t hs k.holds (omega arith) (omega arith))

  pub lower_covered : (hs : List Hold) (t n : ℕ) (k k' : Known C) → n ≡ t → t < 64 → length hs ≡ 64 → length k.holds ≡ 64 → IsCovered (touched_by k) hs → Covered k → k' ≡ with_holds (mixed t hs k.holds) k → IsCovered (touched_by k') (with_hold t (get_or hs n Free) k').holds
  lower_covered hs t n k k' e l a b c d is =
      subst (λ (p : Known C × Known C). IsCovered (touched_by p.0) p.1.holds) (λ i. (sym is i, sym (lowered hs t n k k' e l a b is) i)) (covered_mixed (touched_by k) (suc t) hs k.holds c d)

  pub lower_next : (hs : List Hold) (t n : ℕ) (k k' k2 : Known C) → n ≡ t → t < 64 → length hs ≡ 64 → length k.holds ≡ 64 → k' ≡ with_holds (mixed t hs k.holds) k → k2 ≡ with_hold t (get_or hs n Free) k' → k2 ≡ with_holds (mixed (t + 1) hs k.holds) k
  lower_next hs t n k k' k2 e l a b is now =
      let one : suc t ≡ t + 1 = omega arith in
      now ∙ lowered hs t n k k' e l a b is ∙ ap (λ j. with_holds (mixed j hs k.holds) k) one

  pub lower_all : (hs : List Hold) (t : ℕ) (k k' : Known C) → t ≡ 64 → length hs ≡ 64 → length k.holds ≡ 64 → k' ≡ with_holds (mixed t hs k.holds) k → k' ≡ with_holds hs k
  lower_all hs t k k' e a b is = is ∙ ap (λ j. with_holds (mixed j hs k.holds) k) e ∙ ap (λ (x : List Hold). with_holds x k) (mixed_all 64 hs k.holds a b)

  -- one more stripe is locked for reading
  pub readable_none : (k : Known C) → HasReadable 0 k k
  readable_none k = record { more = []; same = λ i. with_locks k.holds (sym (append-nil k.met) i) k; long = refl; each = λ t l. absurd (omega arith); others = λ t le. refl }

  pub readable_more : (t : ℕ) (k k1 k2 : Known C) → t < length k1.holds → HasReadable t k k1 → HasLocked mode.Shared t k1 k2 → HasReadable (t + 1) k k2
  readable_more t k k1 k2 l a b =
      let hs : k2.holds ≡ set k1.holds t (raised mode.Shared (hold_of t k1)) = ap (λ (j : Known C). j.holds) b.is in record {
        more = a.more ++ b.more;
        same = b.is ∙ (λ i. with_locks (sym hs i) (k1.met ++ b.more) k1) ∙ ap (λ (j : Known C). with_locks k2.holds (j.met ++ b.more) j) a.same ∙ ap (λ (ms : List Met). with_locks k2.holds ms k) (append_assoc k.met a.more b.more);
        long = ap length hs ∙ length-set k1.holds t (raised mode.Shared (hold_of t k1)) ∙ a.long;
        each = λ r lr. dite (ℕ_discrete r t)
            (λ (e : r ≡ t). ap (λ i. hold_of i k2) e ∙ ap (λ xs. get_or xs t Free) hs ∙ get_or-set_same k1.holds t (raised mode.Shared (hold_of t k1)) Free l ∙ ap (raised mode.Shared) (a.others t (omega arith)) ∙ ap (λ i. raised mode.Shared (hold_of i k)) (sym e))
            (λ (ne : r ≢ t). ap (λ xs. get_or xs r Free) hs ∙ get_or-set_other k1.holds t r (raised mode.Shared (hold_of t k1)) Free ne ∙ a.each r (omega arith));
        others = λ r le. ap (λ xs. get_or xs r Free) hs ∙ get_or-set_other k1.holds t r (raised mode.Shared (hold_of t k1)) Free (λ e. omega arith) ∙ a.others r (omega arith);
      }

  -- what the pass had may be given back
  pub readable_below : (n : ℕ) (k k' : Known C) → ((t : ℕ) → hold_of t k ≢ Trying) → HasReadable n k k' → (t : ℕ) → IsBelow (hold_of t k) (hold_of t k')
  readable_below n k k' settled h t = dite (dec_le n t)
      (λ (le : n ≤ t). subst (IsBelow (hold_of t k)) (sym (h.others t le)) (below_same (hold_of t k) (settled t)))
      (λ (gt : ¬ (n ≤ t)). subst (IsBelow (hold_of t k)) (sym (h.each t (omega arith))) (raised_below (hold_of t k) (settled t)))

  pub refused_after : (m : Mode) (n t h : ℕ) (k k1 k2 k3 : Known C) → HasReadable n k k1 → IsRefused m t h k1 k2 → k3 ≡ with_holds k.holds k2 → IsRefused m t h k k3
  refused_after m n t h k k1 k2 k3 a r e = record {
    step = r.step;
    found = r.found;
    before = a.more ++ r.before;
    is = e ∙ ap (λ (j : Known C). with_holds k.holds j) r.is ∙ ap (λ (j : Known C). with_locks k.holds (j.met ++ (r.before ++ met t r.step r.found ∷ [])) j) a.same
        ∙ ap (λ (ms : List Met). with_locks k.holds ms k) (append_assoc k.met a.more (r.before ++ met t r.step r.found ∷ []) ∙ ap (λ (x : List Met). k.met ++ x) (sym (append_assoc a.more r.before (met t r.step r.found ∷ []))));
    why = subst (λ n. Refuses m r.found n h) (ap (λ (j : Known C). j.number) a.same) r.why;
  }

-- One more call, written down.
use Rattle.std.proofs.Common.{◌≡◌, ℕ, zero, suc, ◌-◌, ◌<◌, ◌≤◌, nat_lt, nat_le, inl, inr, length, take, get_or, arith, Bool, true, ◌&&◌, List, [], ◌∷◌, ◌++◌, map, refl, sym, ap, subst, ◌∙◌, length-append}
use Rattle.std.specs.Prelude.{slice_index_or, if◌then◌else◌, All, AllPairs}
use Rattle.std.proofs.lemmas.Bool.{and_parts, ltb-true, leb-true, cases_lt}
use Rattle.std.proofs.lemmas.List.{length-map, take-map, get_or-map, map_push, take-append-le, take_all, length-take-le, get_or-take}
use Rattle.std.proofs.lemmas.List.Elements.{All-push}
use Rattle.std.proofs.lemmas.List.Quantifiers.{all_pairs_push}
use Rattle.history.specs.Writes.{Table, Write, write_into, all_written}
use Rattle.history.specs.Table.{Granted, Work, begun, has_save, after, worked}
use Rattle.history.specs.declared.call.TableCall.{TableCall}
use Rattle.history.specs.declared.call.Reply.{Reply}
use Rattle.history.specs.declared.call.TableCall.TheVariants.{Save, Back}
use Rattle.snapshot_readers.specs.Writing.{Writes}

pub all_written-append : (table : Table) (writes more : List Write) → all_written table (writes ++ more) ≡ all_written (all_written table writes) more
all_written-append table [] more = refl
all_written-append table (write ∷ writes) more = all_written-append (write_into table write) writes more

map_same : (F G : ℕ → Table) (xs : List ℕ) → All (λ x. F x ≡ G x) xs → map F xs ≡ map G xs
map_same F G [] h = refl
map_same F G (x ∷ xs) h =
    let rest : map F xs ≡ map G xs = map_same F G xs (λ k d lt. h (suc k) d (omega (arith, lt))) in
    (λ i. (h 0 x (omega arith)) i ∷ rest i)

take-take : (count most : ℕ) (xs : List Write) → count ≤ most → take count (take most xs) ≡ take count xs
take-take zero most xs le = refl
take-take (suc count) zero xs le = absurd (omega (arith, le))
take-take (suc count) (suc most) [] le = refl
take-take (suc count) (suc most) (x ∷ xs) le = ap (λ l. x ∷ l) (take-take count most xs (omega (arith, le)))

module _ (table : Table) where
  -- the table at a save
  abbrev saved_at : List Write → ℕ → Table
  saved_at writes count = all_written table (take count writes)

  -- a transaction begins on what those before it wrote
  pub begins : (writes : List Write) → Writes table writes [] (begun (all_written table writes))
  begins writes = record { now = refl; saved = refl; within = λ k d lt. absurd (omega (arith, lt)); rising = λ i j d lt within. absurd (omega (arith, within)) }

  -- one write more
  pub write_more : (writes : List Write) (saves : List ℕ) (work : Work) (write : Write) → Writes table writes saves work
      → Writes table (writes ++ write ∷ []) saves (record { table = write_into work.table write; saves = work.saves })
  write_more writes saves work write h = record {
    now = ap (λ (t : Table). write_into t write) h.now ∙ sym (all_written-append table writes (write ∷ []));
    saved = h.saved ∙ map_same (saved_at writes) (saved_at (writes ++ write ∷ [])) saves (λ k d lt. ap (all_written table) (sym (take-append-le (get_or saves k d) writes (write ∷ []) (h.within k d lt))));
    within = λ k d lt. omega (arith, h.within k d lt, length-append writes (write ∷ []));
    rising = h.rising;
  }

  -- a save
  pub save_more : (writes : List Write) (saves : List ℕ) (work : Work) → Writes table writes saves work → Writes table writes (saves ++ length writes ∷ []) (after work Save)
  save_more writes saves work h = record {
    now = h.now;
    saved = ap (λ (l : List Table). l ++ work.table ∷ []) h.saved
        ∙ ap (λ (t : Table). map (saved_at writes) saves ++ t ∷ []) (h.now ∙ ap (all_written table) (sym (take_all (length writes) writes (omega arith))))
        ∙ sym (map_push (saved_at writes) saves (length writes));
    within = All-push (λ count. count ≤ length writes) saves (length writes) h.within (omega arith);
    rising = all_pairs_push (λ count later. count ≤ later) saves (length writes) h.rising h.within;
  }

  -- one call more of those that are left
  pub call_more : {writes more : List Write} {saves later : List ℕ} {all : Work} {left rest : Granted} {call : TableCall} {reply : Reply} → left ≡ (call, reply) ∷ rest
      → ((work : Work) → Writes table writes saves work → Writes table more later (after work call))
      → ((work : Work) × Writes table writes saves work × (worked work left ≡ all)) → (work : Work) × Writes table more later work × (worked work rest ≡ all)
  call_more {call = call} front makes (work, so_far, comes) = (after work call, makes work so_far, sym (ap (worked work) front) ∙ comes)

  -- the saves up to one have no more writes than it
  below : (saves : List ℕ) (n count : ℕ) → 0 < n → n ≤ length saves → count ≡ get_or saves (n - 1) count → AllPairs (λ one later. one ≤ later) saves → All (λ one. one ≤ count) (take n saves)
  below saves n count low high at rising k d lt =
      let few : k < n = omega (arith, lt, length-take-le n saves high) in
      let same : get_or (take n saves) k d ≡ get_or saves k d = get_or-take n saves k d few in
      let last : get_or saves (n - 1) d ≡ count = get_or_same saves (n - 1) d count (omega (arith, low, high)) ∙ sym at in
      subst (λ one. one ≤ count) (sym same) (subst (λ most. get_or saves k d ≤ most) last (up_to saves k (n - 1) d (omega (arith, few)) (omega (arith, low, high)) rising))
    where
      up_to : (xs : List ℕ) (i j d : ℕ) → i ≤ j → j < length xs → AllPairs (λ one later. one ≤ later) xs → get_or xs i d ≤ get_or xs j d
      up_to xs i j d le within rising = elim (cases_lt i j) [
        | inl less ↦ rising i j d less within
        | inr more ↦ let is : i ≡ j = omega (arith, le, more) in omega (arith, ap (λ k. get_or xs k d) is)
      ]

      get_or_same : (xs : List ℕ) (i d e : ℕ) → i < length xs → get_or xs i d ≡ get_or xs i e
      get_or_same [] i d e lt = absurd (omega (arith, lt))
      get_or_same (x ∷ xs) zero d e lt = refl
      get_or_same (x ∷ xs) (suc i) d e lt = get_or_same xs i d e (omega (arith, lt))

  -- a way back to a save
  pub back_more : (writes : List Write) (saves : List ℕ) (work : Work) (n count : ℕ) → true ≡ has_save saves n → count ≡ get_or saves (n - 1) count
      → Writes table writes saves work → Writes table (take count writes) (take n saves) (after work (Back n))
  back_more writes saves work n count is at h =
      let both : (nat_lt 0 n ≡ true) × (nat_le n (length saves) ≡ true) = and_parts (nat_lt 0 n) (nat_le n (length saves)) (sym is) in
      let low : 0 < n = ltb-true 0 n both.0 in
      let high : n ≤ length saves = leb-true n (length saves) both.1 in
      let as_many : length work.saves ≡ length saves = ap length h.saved ∙ length-map saves (saved_at writes) in
      let there : has_save work.saves n ≡ true = ap (λ (k : ℕ). nat_lt 0 n && nat_le n k) as_many ∙ sym is in
      let within : count ≤ length writes = subst (λ k. k ≤ length writes) (sym at) (h.within (n - 1) count (omega (arith, low, high))) in
      let few : All (λ one. one ≤ count) (take n saves) = below saves n count low high at h.rising in
      subst (λ (w : Work). Writes table (take count writes) (take n saves) w)
      (sym (ap (λ (b : Bool). if b then record { table = slice_index_or work.saves (n - 1) work.table; saves = take n work.saves } else work) there))
      (record {
        now = ap (λ (l : List Table). slice_index_or l (n - 1) work.table) h.saved ∙ get_or-map (saved_at writes) saves (n - 1) count work.table (omega (arith, low, high)) ∙ ap (saved_at writes) (sym at);
        saved = ap (take n) h.saved ∙ take-map (saved_at writes) n saves
            ∙ map_same (saved_at writes) (saved_at (take count writes)) (take n saves) (λ k d lt. ap (all_written table) (sym (take-take (get_or (take n saves) k d) count writes (few k d lt))));
        within = λ k d lt. omega (arith, few k d lt, length-take-le count writes within);
        rising = λ i j d lt last. rises saves n i j d lt last high h.rising;
      })
    where
      rises : (xs : List ℕ) (n i j d : ℕ) → i < j → j < length (take n xs) → n ≤ length xs → AllPairs (λ one later. one ≤ later) xs → get_or (take n xs) i d ≤ get_or (take n xs) j d
      rises xs n i j d lt last high rising =
          let short : length (take n xs) ≡ n = length-take-le n xs high in
          omega (arith, get_or-take n xs i d (omega (arith, lt, last, short)), get_or-take n xs j d (omega (arith, last, short)), rising i j d lt (omega (arith, last, short, high)))

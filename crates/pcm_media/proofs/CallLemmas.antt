-- What one more call makes of the marks and places by which calls are kept.
use Rattle.std.proofs.Common.{◌≡◌, ℕ, ◌+◌, ◌≤◌, ◌⊎◌, inl, inr, Bool, true, false, List, [], ◌∷◌, ◌++◌, length, take, drop, refl, sym, ◌∙◌, ap, arith, append_assoc}
use Rattle.std.proofs.lemmas.List.{append-nil, take-append-drop, length-append, length-drop, length-take-le, take-append-le, drop-append-le, drop_all, take_all, nil_from_length}
use Rattle.std.specs.Prelude.{replicate, zero, suc}
use Rattle.pcm_media.specs.declared.call.Call.{Call}
use Rattle.pcm_media.specs.declared.call.Call.TheVariants.{Read, Write}
use Rattle.pcm_media.specs.declared.call.Place.{Place}
use Rattle.pcm_media.specs.declared.call.End.{End}
use Rattle.pcm_media.specs.declared.call.End.TheVariants.{Open, Settled, FailedRead, FailedWrite, FailedBarrier}
use Rattle.pcm_media.specs.declared.call.Mark.{Mark}
use Rattle.pcm_media.specs.Calls.{Record, writes_at, failed_writes, calls_at, calls_of, places_under, all_under, calls_in, numbered, records_in, ranges_in, with_call}
use Rattle.pcm_media.specs.Replay.{next_unsettled, unsettled_after}
use Rattle.pcm_media.specs.Logged.{AreCounted}
use Rattle.pcm_media.proofs.ChoiceLemmas.{unsettled_after-push, ranges_in-push}

both : {ks ls ms ns : List (Call × Bool)} → ks ≡ ls → ms ≡ ns → ks ++ ms ≡ ls ++ ns
both {ks} {ls} {ms} {ns} same more = ap (λ (l : List (Call × Bool)). l ++ ms) same ∙ ap (λ (l : List (Call × Bool)). ls ++ l) more

numbered-length : (now : ℕ) (cs : List (Call × Bool)) → length (numbered now cs) ≡ length cs
numbered-length now [] = refl
numbered-length now (c ∷ cs) = ap (λ (n : ℕ). suc n) (numbered-length (now + 1) cs)

numbered-push : (now : ℕ) (cs : List (Call × Bool)) (c : Call × Bool) → numbered now (cs ++ c ∷ []) ≡ numbered now cs ++ record { moment = now + length cs + 1; call = c.0; is_done = c.1 } ∷ []
numbered-push now [] c = ap (λ (n : ℕ). record { moment = n; call = c.0; is_done = c.1 } ∷ []) (omega arith)
numbered-push now (x ∷ cs) c =
    ap (λ (l : List Record). record { moment = now + 1; call = x.0; is_done = x.1 } ∷ l) (numbered-push (now + 1) cs c
    ∙ ap (λ (n : ℕ). numbered (now + 1) cs ++ record { moment = n; call = c.0; is_done = c.1 } ∷ []) (omega arith))

writes_at-append : (ps qs : List Place) (is_done : Bool) → writes_at (ps ++ qs) is_done ≡ writes_at ps is_done ++ writes_at qs is_done
writes_at-append [] qs is_done = refl
writes_at-append (p ∷ ps) qs is_done = ap (λ (l : List (Call × Bool)). (Write p.at p.len, is_done) ∷ l) (writes_at-append ps qs is_done)

replicate-push : (n : ℕ) (c : Call × Bool) → replicate (n + 1) c ≡ replicate n c ++ c ∷ []
replicate-push zero c = refl
replicate-push (suc n) c =
    let next : suc n + 1 ≡ suc (n + 1) = omega arith in
    ap (λ (k : ℕ). replicate k c) next ∙ ap (λ (l : List (Call × Bool)). c ∷ l) (replicate-push n c)

-- places behind those of an end do not change its call
calls_at-append : (end : End) (ps qs : List Place) → failed_writes end ≤ length ps → calls_at end (ps ++ qs) ≡ calls_at end ps
calls_at-append Open ps qs fits = refl
calls_at-append Settled ps qs fits = refl
calls_at-append FailedRead ps qs fits = refl
calls_at-append FailedWrite ps qs fits = ap (λ (l : List Place). writes_at l false) (take-append-le 1 ps qs fits)
calls_at-append FailedBarrier ps qs fits = refl

-- nor do places behind those of a mark change its calls
calls_of-append : (m : Mark) (ps qs : List Place) → places_under m ≤ length ps → calls_of m (ps ++ qs) ≡ calls_of m ps
calls_of-append m ps qs fits =
    let rest = length-drop m.writes ps in
    let front : take m.writes (ps ++ qs) ≡ take m.writes ps = take-append-le m.writes ps qs (omega arith) in
    let mid : calls_at m.end (drop m.writes (ps ++ qs)) ≡ calls_at m.end (drop m.writes ps)
    = ap (calls_at m.end) (drop-append-le m.writes ps qs (omega arith)) ∙ calls_at-append m.end (drop m.writes ps) qs (omega (arith, rest)) in
    ap (λ (l : List (Call × Bool)). replicate m.reads (Read, true) ++ l) (both (ap (λ (l : List Place). writes_at l true) front) mid)

pub all_under-append : (ms ns : List Mark) → all_under (ms ++ ns) ≡ all_under ms + all_under ns
all_under-append [] ns = omega arith
all_under-append (m ∷ ms) ns = omega (arith, all_under-append ms ns)

-- marks and the places under them, and further ones
calls_in-append : (ms ns : List Mark) (ps qs : List Place) → all_under ms ≡ length ps → calls_in (ms ++ ns) (ps ++ qs) ≡ calls_in ms ps ++ calls_in ns qs
calls_in-append [] ns ps qs all = rw (nil_from_length ps (sym all)) refl
calls_in-append (m ∷ ms) ns ps qs all =
    let under = length-drop (places_under m) ps in
    let back : calls_in (ms ++ ns) (drop (places_under m) (ps ++ qs)) ≡ calls_in ms (drop (places_under m) ps) ++ calls_in ns qs
    = ap (calls_in (ms ++ ns)) (drop-append-le (places_under m) ps qs (omega arith)) ∙ calls_in-append ms ns (drop (places_under m) ps) qs (omega (arith, under)) in
    both (calls_of-append m ps qs (omega arith)) back ∙ sym (append_assoc (calls_of m ps) (calls_in ms (drop (places_under m) ps)) (calls_in ns qs))

-- the calls of a mark, by its reads, its writes and its end
calls_of-is : (m : Mark) (places : List Place) (reads writes : ℕ) (end : End) → m.reads ≡ reads → m.writes ≡ writes → m.end ≡ end
    → calls_of m places ≡ replicate reads (Read, true) ++ (writes_at (take writes places) true ++ calls_at end (drop writes places))
calls_of-is m places reads writes end is_reads is_writes is_end =
    ap (λ (n : ℕ). replicate n (Read, true) ++ (writes_at (take m.writes places) true ++ calls_at m.end (drop m.writes places))) is_reads
    ∙ ap (λ (n : ℕ). replicate reads (Read, true) ++ (writes_at (take n places) true ++ calls_at m.end (drop n places))) is_writes
    ∙ ap (λ (e : End). replicate reads (Read, true) ++ (writes_at (take writes places) true ++ calls_at e (drop writes places))) is_end

-- the calls of a mark whose writes are at all of some places, which others follow
whole_mark : (m : Mark) (ps qs : List Place) (reads : ℕ) (end : End) → m.reads ≡ reads → m.writes ≡ length ps → m.end ≡ end
    → calls_of m (ps ++ qs) ≡ (replicate reads (Read, true) ++ writes_at ps true) ++ calls_at end qs
whole_mark m ps qs reads end is_reads is_writes is_end =
    let front : take (length ps) (ps ++ qs) ≡ ps = take-append-le (length ps) ps qs (omega arith) ∙ take_all (length ps) ps (omega arith) in
    let behind : drop (length ps) (ps ++ qs) ≡ qs = drop-append-le (length ps) ps qs (omega arith) ∙ ap (λ (l : List Place). l ++ qs) (drop_all (length ps) ps (omega arith)) in
    calls_of-is m (ps ++ qs) reads (length ps) end is_reads is_writes is_end
    ∙ ap (λ (l : List (Call × Bool)). replicate reads (Read, true) ++ l) (both (ap (λ (l : List Place). writes_at l true) front) (ap (calls_at end) behind))
    ∙ sym (append_assoc (replicate reads (Read, true)) (writes_at ps true) (calls_at end qs))

module _ (marks : List Mark) (last : Mark) (places : List Place) (settled : ℕ) (counted : AreCounted marks last places settled) where
  abbrev front : List Place
  front = take (all_under marks) places

  -- the places of the last mark
  abbrev back : List Place
  back = drop (all_under marks) places

  long : length back ≡ last.writes
  long = omega (arith, length-drop (all_under marks) places, counted.under)

  parted : (extra : List Place) → places ++ extra ≡ front ++ (back ++ extra)
  parted extra = ap (λ (l : List Place). l ++ extra) (sym (take-append-drop (all_under marks) places)) ∙ append_assoc front back extra

  -- the calls before the last mark, and those of others in its place
  joined : (ns : List Mark) (extra : List Place) → calls_in (marks ++ ns) (places ++ extra) ≡ calls_in marks front ++ calls_in ns (back ++ extra)
  joined ns extra = ap (calls_in (marks ++ ns)) (parted extra)
      ∙ calls_in-append marks ns front (back ++ extra) (sym (length-take-le (all_under marks) places (omega (arith, counted.under))))

  -- what the last mark has
  abbrev own : List (Call × Bool)
  own = replicate last.reads (Read, true) ++ writes_at back true

  last_is : (extra : List Place) → calls_of last (back ++ extra) ≡ own
  last_is extra = whole_mark last back extra last.reads Open refl (sym long) counted.ended ∙ append-nil own

  calls_now : calls_in (marks ++ last ∷ []) places ≡ calls_in marks front ++ own
  calls_now = ap (calls_in (marks ++ last ∷ [])) (sym (append-nil places)) ∙ joined (last ∷ []) []
      ∙ ap (λ (l : List (Call × Bool)). calls_in marks front ++ l) (append-nil (calls_of last (back ++ [])) ∙ last_is [])

  -- marks in place of the last one that have one more call
  one_more : (ns : List Mark) (extra : List Place) (c : Call × Bool) → calls_in ns (back ++ extra) ≡ own ++ c ∷ [] → calls_in (marks ++ ns) (places ++ extra) ≡ calls_in (marks ++ last ∷ []) places ++ c ∷ []
  one_more ns extra c is =
      joined ns extra
      ∙ ap (λ (l : List (Call × Bool)). calls_in marks front ++ l) is
      ∙ sym (append_assoc (calls_in marks front) own (c ∷ []))
      ∙ ap (λ (l : List (Call × Bool)). l ++ c ∷ []) (sym calls_now)

  -- the calls are then these, with one more
  module _ (marks' : List Mark) (last' : Mark) (places' : List Place) (call : Call) (is_done : Bool) (more : calls_in (marks' ++ last' ∷ []) places' ≡ calls_in (marks ++ last ∷ []) places ++ (call, is_done) ∷ []) where
    one_record : records_in (marks' ++ last' ∷ []) places' ≡ with_call (records_in (marks ++ last ∷ []) places) call is_done
    one_record =
        ap (numbered 0) more ∙ numbered-push 0 (calls_in (marks ++ last ∷ []) places) (call, is_done)
        ∙ ap (λ (n : ℕ). numbered 0 (calls_in (marks ++ last ∷ []) places) ++ record { moment = n; call = call; is_done = is_done } ∷ []) here
      where
        here : 0 + length (calls_in (marks ++ last ∷ []) places) + 1 ≡ length (numbered 0 (calls_in (marks ++ last ∷ []) places)) + 1
        here = omega (arith, numbered-length 0 (calls_in (marks ++ last ∷ []) places))

    one_counted : (settled' : ℕ) → all_under marks' + last'.writes ≡ length places' → last'.end ≡ Open → settled' ≤ length places' → next_unsettled call is_done (ranges_in (drop settled places)) ≡ ranges_in (drop settled' places') → AreCounted marks' last' places' settled'
    one_counted settled' under ended past unsettled = record {
      under = under;
      ended = ended;
      past = past;
      unsettled =
          ap (λ (l : List Record). unsettled_after l []) one_record
          ∙ unsettled_after-push (records_in (marks ++ last ∷ []) places) (record { moment = length (records_in (marks ++ last ∷ []) places) + 1; call = call; is_done = is_done }) []
          ∙ ap (next_unsettled call is_done) counted.unsettled
          ∙ unsettled;
    }

  -- what a push comes to: the marks and places are counted, and hold one more call
  abbrev pub Keeps : List Mark → Mark → List Place → ℕ → Call → Bool → Type 0
  Keeps marks' last' places' settled' call is_done = AreCounted marks' last' places' settled' × (records_in (marks' ++ last' ∷ []) places' ≡ with_call (records_in (marks ++ last ∷ []) places) call is_done)

  -- one more read that was done, in the last mark or in one behind it
  pub read_kept : (marks' : List Mark) (last' : Mark) → (((marks' ≡ marks) × (last.writes ≡ 0) × (last' ≡ record last { reads = last.reads + 1 }))
      ⊎ ((marks' ≡ marks ++ last ∷ []) × (last' ≡ record { reads = 1; writes = 0; end = Open }))) → Keeps marks' last' places settled Read true
  read_kept marks' last' (inl (same, none, is)) =
      let one : last'.writes ≡ length back = ap (λ (m : Mark). m.writes) is ∙ sym long in
      let ended : last'.end ≡ Open = ap (λ (m : Mark). m.end) is ∙ counted.ended in
      let empty : back ≡ [] = nil_from_length back (long ∙ none) in
      let c : Call × Bool = (Read, true) in
      let mine : own ≡ replicate last.reads c = ap (λ (l : List Place). replicate last.reads c ++ writes_at l true) empty ∙ append-nil (replicate last.reads c) in
      let now : calls_in (last' ∷ []) (back ++ []) ≡ own ++ c ∷ [] = append-nil (calls_of last' (back ++ []))
      ∙ whole_mark last' back [] (last.reads + 1) Open (ap (λ (m : Mark). m.reads) is) one ended ∙ append-nil (replicate (last.reads + 1) c ++ writes_at back true)
      ∙ ap (λ (l : List Place). replicate (last.reads + 1) c ++ writes_at l true) empty ∙ append-nil (replicate (last.reads + 1) c)
      ∙ replicate-push last.reads c ∙ ap (λ (l : List (Call × Bool)). l ++ c ∷ []) (sym mine) in
      let calls : calls_in (marks' ++ last' ∷ []) places ≡ calls_in (marks ++ last ∷ []) places ++ c ∷ []
      = ap (λ (l : List Mark). calls_in (l ++ last' ∷ []) places) same ∙ ap (calls_in (marks ++ last' ∷ [])) (sym (append-nil places)) ∙ one_more (last' ∷ []) [] c now in
      (one_counted marks' last' places Read true calls settled (omega (arith, ap all_under same, one, long, counted.under)) ended counted.past refl, one_record marks' last' places Read true calls)
  read_kept marks' last' (inr (new, is)) =
      let c : Call × Bool = (Read, true) in
      let next : calls_of last' (drop (places_under last) (back ++ [])) ≡ c ∷ []
      = whole_mark last' [] (drop (places_under last) (back ++ [])) 1 Open (ap (λ (m : Mark). m.reads) is) (ap (λ (m : Mark). m.writes) is) (ap (λ (m : Mark). m.end) is) in
      let now : calls_in (last ∷ last' ∷ []) (back ++ []) ≡ own ++ c ∷ [] = both (last_is []) (append-nil (calls_of last' (drop (places_under last) (back ++ []))) ∙ next) in
      let calls : calls_in (marks' ++ last' ∷ []) places ≡ calls_in (marks ++ last ∷ []) places ++ c ∷ []
      = ap (λ (l : List Mark). calls_in (l ++ last' ∷ []) places) new ∙ ap (λ (l : List Mark). calls_in l places) (append_assoc marks (last ∷ []) (last' ∷ []))
      ∙ ap (calls_in (marks ++ last ∷ last' ∷ [])) (sym (append-nil places)) ∙ one_more (last ∷ last' ∷ []) [] c now in
      let under : all_under marks' + last'.writes ≡ length places
      = omega (arith, ap all_under new, all_under-append marks (last ∷ []), ap failed_writes counted.ended, ap (λ (m : Mark). m.writes) is, counted.under) in
      (one_counted marks' last' places Read true calls settled under (ap (λ (m : Mark). m.end) is) counted.past refl, one_record marks' last' places Read true calls)

  pub write_unsettled : (places' : List Place) (p : Place) → places' ≡ places ++ p ∷ [] → (p.at, p.len) ∷ ranges_in (drop settled places) ≡ ranges_in (drop settled places')
  write_unsettled places' p new = sym (ap (λ (l : List Place). ranges_in (drop settled l)) new ∙ ap ranges_in (drop-append-le settled places (p ∷ []) counted.past) ∙ ranges_in-push (drop settled places) p)

  -- one more write that was done, in the last mark or in one behind it
  pub write_kept : (marks' : List Mark) (last' : Mark) (places' : List Place) (p : Place) → places' ≡ places ++ p ∷ [] → (((marks' ≡ marks) × (last' ≡ record last { writes = last.writes + 1 }))
      ⊎ ((marks' ≡ marks ++ last ∷ []) × (last' ≡ record { reads = 0; writes = 1; end = Open }))) → Keeps marks' last' places' settled (Write p.at p.len) true
  write_kept marks' last' places' p more (inl (same, is)) =
      let c : Call × Bool = (Write p.at p.len, true) in
      let grown : length places' ≡ length places + 1 = ap length more ∙ length-append places (p ∷ []) in
      let writes : last'.writes ≡ last.writes + 1 = ap (λ (m : Mark). m.writes) is in
      let one : last'.writes ≡ length (back ++ p ∷ []) = omega (arith, writes, long, length-append back (p ∷ [])) in
      let ended : last'.end ≡ Open = ap (λ (m : Mark). m.end) is ∙ counted.ended in
      let reads : List (Call × Bool) = replicate last.reads (Read, true) in
      let now : calls_in (last' ∷ []) (back ++ p ∷ []) ≡ own ++ c ∷ [] = append-nil (calls_of last' (back ++ p ∷ []))
      ∙ ap (calls_of last') (sym (append-nil (back ++ p ∷ [])))
      ∙ whole_mark last' (back ++ p ∷ []) [] last.reads Open (ap (λ (m : Mark). m.reads) is) one ended ∙ append-nil (reads ++ writes_at (back ++ p ∷ []) true)
      ∙ ap (λ (l : List (Call × Bool)). reads ++ l) (writes_at-append back (p ∷ []) true) ∙ sym (append_assoc reads (writes_at back true) (c ∷ [])) in
      let calls : calls_in (marks' ++ last' ∷ []) places' ≡ calls_in (marks ++ last ∷ []) places ++ c ∷ []
      = ap (λ (l : List Mark). calls_in (l ++ last' ∷ []) places') same ∙ ap (calls_in (marks ++ last' ∷ [])) more ∙ one_more (last' ∷ []) (p ∷ []) c now in (
        one_counted marks' last' places' (Write p.at p.len) true calls settled (omega (arith, ap all_under same, writes, counted.under, grown)) ended (omega (arith, counted.past, grown)) (write_unsettled places' p more),
        one_record marks' last' places' (Write p.at p.len) true calls,
      )
  write_kept marks' last' places' p more (inr (new, is)) =
      let c : Call × Bool = (Write p.at p.len, true) in
      let grown : length places' ≡ length places + 1 = ap length more ∙ length-append places (p ∷ []) in
      let under_last : places_under last ≡ length back = omega (arith, ap failed_writes counted.ended, long) in
      let rest : drop (places_under last) (back ++ p ∷ []) ≡ p ∷ [] = drop-append-le (places_under last) back (p ∷ []) (omega arith) ∙ ap (λ (l : List Place). l ++ p ∷ []) (drop_all (places_under last) back (omega arith)) in
      let next : calls_of last' (drop (places_under last) (back ++ p ∷ [])) ≡ c ∷ []
      = ap (calls_of last') rest ∙ whole_mark last' (p ∷ []) [] 0 Open (ap (λ (m : Mark). m.reads) is) (ap (λ (m : Mark). m.writes) is) (ap (λ (m : Mark). m.end) is) in
      let now : calls_in (last ∷ last' ∷ []) (back ++ p ∷ []) ≡ own ++ c ∷ [] = both (last_is (p ∷ [])) (append-nil (calls_of last' (drop (places_under last) (back ++ p ∷ []))) ∙ next) in
      let calls : calls_in (marks' ++ last' ∷ []) places' ≡ calls_in (marks ++ last ∷ []) places ++ c ∷ []
      = ap (λ (l : List Mark). calls_in (l ++ last' ∷ []) places') new ∙ ap (λ (l : List Mark). calls_in l places') (append_assoc marks (last ∷ []) (last' ∷ []))
      ∙ ap (calls_in (marks ++ last ∷ last' ∷ [])) more ∙ one_more (last ∷ last' ∷ []) (p ∷ []) c now in
      let under : all_under marks' + last'.writes ≡ length places'
      = omega (arith, ap all_under new, all_under-append marks (last ∷ []), ap failed_writes counted.ended, ap (λ (m : Mark). m.writes) is, counted.under, grown) in (
        one_counted marks' last' places' (Write p.at p.len) true calls settled under (ap (λ (m : Mark). m.end) is) (omega (arith, counted.past, grown)) (write_unsettled places' p more),
        one_record marks' last' places' (Write p.at p.len) true calls,
      )

  -- the end of the last mark, and an empty one behind it; a failed write has one more place
  pub end_kept : (marks' : List Mark) (last' m : Mark) (places' extra : List Place) (settled' : ℕ) (call : Call) (is_done : Bool) → marks' ≡ marks ++ m ∷ [] → last' ≡ record { reads = 0; writes = 0; end = Open }
      → m.reads ≡ last.reads → m.writes ≡ last.writes → places' ≡ places ++ extra → failed_writes m.end ≡ length extra → calls_at m.end extra ≡ (call, is_done) ∷ [] → settled' ≤ length places'
      → next_unsettled call is_done (ranges_in (drop settled places)) ≡ ranges_in (drop settled' places') → Keeps marks' last' places' settled' call is_done
  end_kept marks' last' m places' extra settled' call is_done new is reads writes more failed at_end past unsettled =
      let c : Call × Bool = (call, is_done) in
      let grown : length places' ≡ length places + length extra = ap length more ∙ length-append places extra in
      let next : calls_of last' (drop (places_under m) (back ++ extra)) ≡ []
      = whole_mark last' [] (drop (places_under m) (back ++ extra)) 0 Open (ap (λ (x : Mark). x.reads) is) (ap (λ (x : Mark). x.writes) is) (ap (λ (x : Mark). x.end) is) in
      let now : calls_in (m ∷ last' ∷ []) (back ++ extra) ≡ own ++ c ∷ [] =
      both (whole_mark m back extra last.reads m.end reads (writes ∙ sym long) refl ∙ ap (λ (l : List (Call × Bool)). own ++ l) at_end) (append-nil (calls_of last' (drop (places_under m) (back ++ extra))) ∙ next)
      ∙ append-nil (own ++ c ∷ []) in
      let calls : calls_in (marks' ++ last' ∷ []) places' ≡ calls_in (marks ++ last ∷ []) places ++ c ∷ []
      = ap (λ (l : List Mark). calls_in (l ++ last' ∷ []) places') new ∙ ap (λ (l : List Mark). calls_in l places') (append_assoc marks (m ∷ []) (last' ∷ []))
      ∙ ap (calls_in (marks ++ m ∷ last' ∷ [])) more ∙ one_more (m ∷ last' ∷ []) extra c now in
      let under : all_under marks' + last'.writes ≡ length places'
      = omega (arith, ap all_under new, all_under-append marks (m ∷ []), ap (λ (x : Mark). x.writes) is, writes, failed, counted.under, grown) in
      (one_counted marks' last' places' call is_done calls settled' under (ap (λ (x : Mark). x.end) is) past unsettled, one_record marks' last' places' call is_done calls)

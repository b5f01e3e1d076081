-- What comes of one line, given what comes of its command.
use Rattle.std.proofs.Common.{◌≡◌, ◌≤◌, ℕ, lit<, List, [], ◌∷◌, ◌++◌, Option, Some, None, Result, Ok, Err, inl, inr, ⊎_elim, refl, sym, subst, arith}
use Rattle.std.specs.Prelude.{Bool, IsTrue, Contains, option_map}
use Rattle.std.proofs.lemmas.List.Elements.{Contains-append_left, Contains-append_right}
use Rattle.mars_base.proofs.Going as going
use Rattle.mars_base.specs.declared.Failed.{Failed}
use Rattle.array_shape.specs.declared.shape.Shape.{Shape}
use Rattle.array_shape.specs.Logged.{ranges_of}
use Rattle.eaw_face.specs.StoreView.{StoreView}
use Rattle.script_text.specs.Eaw.{Raw}
use Rattle.script_text.specs.EawLines.{nothing, told, bad, Means, ShowsCall, SaysEaw}
use Rattle.script_text.specs.AnswerLines.{answer_text}
use Rattle.script_text.specs.Replies.{told_line, bad_line}
use Rattle.script_text.specs.declared.answer.Answer.{Answer}
use Rattle.script_text.specs.declared.eaw_call.EawCall.{EawCall}
use Rattle.script_text.specs.declared.eaw_line.EawLine.TheVariants.{Nothing, Told, Bad}
use Rattle.script_run.specs.Answers.{Answers}
use Rattle.script_run.specs.declared.responder.Stop.{Stop}
use Rattle.script_run.specs.declared.responder.Stop.TheVariants.{Media, NoMemory}
use Rattle.eaw_script.specs.Tests.{asks, checks}
use Rattle.eaw_script.specs.Answers.{AnswersWith, state_after}
use Rattle.eaw_script.specs.Lines.{RawLineGives, raw_script}
use Rattle.eaw_script.specs.Performed.{Performed}
use Rattle.eaw_script.specs.Progress.{Progress, Shows, Comes, moved}
use Rattle.eaw_script.specs.Laws.{comes_none}

-- a bad line, and a line with a call: its command
means_bad : (numbers : ℕ) (line : List ℕ) → SaysEaw numbers line Bad → Means numbers line bad
means_bad numbers line says = subst (Means numbers line) says.2 says.1

means_nothing : (numbers : ℕ) (line : List ℕ) → SaysEaw numbers line Nothing → Means numbers line nothing
means_nothing numbers line says = subst (Means numbers line) says.2 says.1

pub means_told : (numbers : ℕ) (line : List ℕ) (t : ℕ) (call : EawCall) → SaysEaw numbers line (Told t call)
    → (raw : Raw) × ShowsCall t call raw × Means numbers line (told t raw)
means_told numbers line t call says = (says.2.0, says.2.1, subst (Means numbers line) says.2.2 says.1)

-- what a responder answers
abbrev pub Reply : Type 0
Reply = Result (Unit {0}) Stop

-- a script at this store, after this past
abbrev pub at : StoreView → List (List ℕ) → Progress
at store past = record { shape = store.shape; state = store.state; past = past; doubt = None }

shown : (store : StoreView) (progress : Progress) → Shows store progress → progress ≡ at store progress.past
shown store progress shows = λ i. record { shape = shows.shape i; state = shows.state i; past = progress.past; doubt = shows.certain i }

shows_at : (store : StoreView) (past : List (List ℕ)) → Shows store (at store past)
shows_at store past = record { shape = refl; state = refl; certain = refl }

-- what comes of a line over a store, given what comes of it after each past
pub from_past : (Opens : Shape → List ℕ → List ℕ → Type 0) (old new : StoreView) (n : ℕ) (line text : List ℕ) (result : Reply)
    → ((past : List (List ℕ)) → Answers raw_script (Shows new) (Comes Opens old (at old past) new) (at old past) n line text result)
    → (progress : Progress) → Shows old progress → Answers raw_script (Shows new) (Comes Opens old progress new) progress n line text result
from_past Opens old new n line text result all progress shows =
    subst (λ (p : Progress). Answers raw_script (Shows new) (Comes Opens old p new) p n line text result) (sym (shown old progress shows)) (all progress.past)

module _ (Opens : Shape → List ℕ → List ℕ → Type 0) (store : StoreView) (n : ℕ) (line : List ℕ) (only : (image : List ℕ) → store.left_since store.moment image → Opens store.shape image store.state.bytes) (past : List (List ℕ)) where
  stays : Comes Opens store (at store past) store (at store past)
  stays = comes_none Opens store (at store past) (shows_at store past) only

  -- a line that is passed over, and a bad one
  pub passed_over : (text : List ℕ) → text ≡ [] → SaysEaw store.shape.numbers line Nothing → Answers raw_script (Shows store) (Comes Opens store (at store past) store) (at store past) n line text (let r : Reply = Ok tt in r)
  passed_over text is says = (at store past, inl (means_nothing store.shape.numbers line says, is, refl), shows_at store past, stays)

  pub refused : (text : List ℕ) → text ≡ bad_line n → SaysEaw store.shape.numbers line Bad → Answers raw_script (Shows store) (Comes Opens store (at store past) store) (at store past) n line text (let r : Reply = Ok tt in r)
  refused text is says = let means = means_bad store.shape.numbers line says in (at store past, inr (inr (means.0, means.1, is, refl)), shows_at store past, stays)

  pub refused_short : (text : List ℕ) → SaysEaw store.shape.numbers line Bad → Answers raw_script (Shows store) (Comes Opens store (at store past) store) (at store past) n line text (let r : Reply = Err NoMemory in r)
  refused_short text says = let means = means_bad store.shape.numbers line says in (at store past, (bad_line n, inr (inr (means.0, means.1, refl, refl))), stays)

module _ (tells : Bool) (tell : IsTrue tells) (Opens : Shape → List ℕ → List ℕ → Type 0) (old new : StoreView) (n : ℕ) (line : List ℕ) (t : ℕ) (raw : Raw)
    (outline : old.ranges t ≡ option_map ranges_of (old.state.logs t)) (means : Means old.shape.numbers line (told t raw)) (past : List (List ℕ)) where
  module _ (answer : Answer) (did : Performed tells (Opens old.shape) old new t raw (Ok answer)) (only : (image : List ℕ) → new.left_since new.moment image → Opens new.shape image new.state.bytes) where
    -- what a command makes of a script
    moved_on : Comes Opens old (at old past) new (moved (at old past) new.state)
    moved_on =
        let was : Contains (past ++ old.state.bytes ∷ []) old.state.bytes = Contains-append_right past (old.state.bytes ∷ []) old.state.bytes (0, lit< tt, refl) in
        record {
          shape = refl;
          grows = λ bytes made. elim made [
            | inl now ↦ elim now [
              | inl is ↦ inr (subst (λ (b : List ℕ). Contains (past ++ old.state.bytes ∷ []) b) (sym is) was)
              | inr none ↦ cc
            ]
            | inr before ↦ inr (Contains-append_left past (old.state.bytes ∷ []) bytes before)
          ];
          since = going.weaker (λ image either. ⊎_elim (λ opens. (old.state.bytes, opens, inr was)) (λ opens. (new.state.bytes, opens, inl (inl refl))) either) (did.time tell);
          now = λ image left. (new.state.bytes, subst (λ (s : Shape). Opens s image new.state.bytes) did.shape (only image left), inl refl);
        }

    gives : RawLineGives (at old past) n line (told_line t (answer_text t answer)) (moved (at old past) new.state)
    gives = inr (inl (
      t,
      raw,
      answer,
      means,
      refl,
      subst (λ (log : Option (List (ℕ × ℕ))). AnswersWith old.shape log old.state t raw answer new.state) outline (did.answers tell),
      refl,
    ))

    pub performed : (text : List ℕ) → text ≡ told_line t (answer_text t answer) → Answers raw_script (Shows new) (Comes Opens old (at old past) new) (at old past) n line text (let r : Reply = Ok tt in r)
    performed text is = (
      moved (at old past) new.state,
      subst (λ (txt : List ℕ). RawLineGives (at old past) n line txt (moved (at old past) new.state)) (sym is) gives,
      record { shape = sym did.shape; state = refl; certain = refl },
      moved_on,
    )

    -- there is no memory for its answer
    pub performed_short : (text : List ℕ) → Answers raw_script (Shows new) (Comes Opens old (at old past) new) (at old past) n line text (let r : Reply = Err NoMemory in r)
    performed_short text = (moved (at old past) new.state, (told_line t (answer_text t answer), gives), moved_on)

  -- The medium failed: what the command was to make may have become durable or not.
  module _ (e : Failed) (did : Performed tells (Opens old.shape) old new t raw (Err e)) (only : (image : List ℕ) → old.left_since old.moment image → Opens old.shape image old.state.bytes)
      (counts : (m : ℕ) (image : List ℕ) → m ≤ new.moment → new.left_since new.moment image → new.left_since m image) where
    pub failed : (text : List ℕ) → Answers raw_script (Shows new) (Comes Opens old (at old past) new) (at old past) n line text (let r : Reply = Err (Media t) in r)
    failed text =
        let made = (state_after raw old.state).bytes in
        let time = did.time tell in (
          record { shape = old.shape; state = old.state; past = past; doubt = Some made },
          (
            raw,
            means,
            (
              subst (λ (log : Option (List (ℕ × ℕ))). checks old.shape (asks old.shape log raw) None) outline did.fails.0,
              subst (λ (log : Option (List (ℕ × ℕ))). (asks old.shape log raw).media) outline did.fails.1,
            ),
            refl,
          ),
          record {
            shape = refl;
            grows = λ bytes was. elim was [
              | inl now ↦ elim now [ inl is ↦ inl (inl is) | inr none ↦ cc ]
              | inr before ↦ inr before
            ];
            since = going.weaker (λ image either. ⊎_elim (λ opens. (old.state.bytes, opens, inl (inl refl))) (λ opens. (made, opens, inl (inr refl))) either) time;
            now = λ image left. elim (time.only old.moment image (omega arith) (counts old.moment image time.later left)) [
              | inl was ↦ (old.state.bytes, only image was, inl refl)
              | inr either ↦ ⊎_elim (λ opens. (old.state.bytes, opens, inl refl)) (λ opens. (made, opens, inr refl)) either
            ];
          },
        )

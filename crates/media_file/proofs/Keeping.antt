-- A file in memory that keeps one call more.
use Rattle.std.proofs.Common.{◌≡◌, List, ℕ, [], ◌∷◌, ◌++◌, ◌∙◌, ap}
use Rattle.std.proofs.lemmas.List.{reverse-append}
use Rattle.pcm_media.specs.Replay.{at_rest}
use Rattle.media_file.specs.declared.honest_call.HonestCall.{HonestCall}
use Rattle.media_file.specs.Past.{held, noted}
use Rattle.media_file.specs.Honest.{told, past_of, event_of}

pub kept_call : (first : List ℕ) (calls now : List HonestCall) (call : HonestCall) → now ≡ calls ++ call ∷ [] → past_of first now ≡ noted call.moment (event_of call.done (held (past_of first calls))) (past_of first calls)
kept_call first calls now call is = ap (past_of first) is ∙ ap (λ (cs : List HonestCall). record { first = at_rest first; calls = told (at_rest first) cs }) (reverse-append calls (call ∷ []))

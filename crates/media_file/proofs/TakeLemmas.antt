-- What a call of a file in memory takes from its list.
use Rattle.std.proofs.Common.{◌≡◌, false, drop, inr, Result, Err, sym, ◌∙◌, ap, subst}
use Rattle.std.specs.Prelude.{OnOk}
use Rattle.std.proofs.lemmas.Bool.{true≢false}
use Rattle.media_file.specs.declared.calls.CallFault.{CallFault}
use Rattle.media_file.specs.declared.calls.CallFault.TheVariants.{Failed}
use Rattle.media_file.specs.declared.honest_calls.HonestCalls.{HonestCalls}
use Rattle.media_file.specs.InMemory.{Takes}

-- a call that failed where its answer does not fail it
module _ {T : Type 0} (old new : HonestCalls) (result : Result T CallFault) (fault : CallFault) where
  pub takes_failed : result ≡ Err fault → fault ≡ Failed → new.answers ≡ drop 1 old.answers → new.as_listed ≡ false → Takes old new result
  takes_failed was is rest unlisted =
      let failed : result ≡ Err Failed = was ∙ ap (λ (f : CallFault). let r : Result T CallFault = Err f in r) is in
      record {
        rest = rest;
        obeys = inr (failed, unlisted);
        listed = λ listed. absurd (true≢false (sym listed ∙ unlisted));
        done = subst (λ (r : Result T CallFault). OnOk r (new.as_listed ≡ old.as_listed)) (sym failed) tt;
      }

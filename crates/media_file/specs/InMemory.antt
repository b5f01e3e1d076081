-- What a file in memory shows.
use Rattle.std.specs.Prelude.{◌≡◌, ◌⊎◌, true, false, drop, Result, Err, OnOk}
use Rattle.media_file.specs.declared.calls.CallFault.{CallFault}
use Rattle.media_file.specs.declared.calls.CallFault.TheVariants.{Failed}
use Rattle.media_file.specs.declared.honest_calls.HonestCalls.{HonestCalls}
use Rattle.media_file.specs.Past.{Past}
use Rattle.media_file.specs.Honest.{past_of}
use Rattle.media_file.specs.AsListed.{next_of, Obeys}

-- its first bytes, all settled, and the calls that it kept
abbrev pub past_in : HonestCalls → Past
past_in file = past_of file.first.items file.calls.items

-- What a call takes from the list of answers. It is answered as the list says, or it fails, and then not all is as listed any more.
pub record Takes {T : Type 0} (old new : HonestCalls) (result : Result T CallFault) : Type 0 where
  pub rest : new.answers ≡ drop 1 old.answers
  pub obeys : Obeys (next_of old.answers) result ⊎ ((result ≡ Err Failed) × (new.as_listed ≡ false))
  pub listed : new.as_listed ≡ true → old.as_listed ≡ true
  pub done : OnOk result (new.as_listed ≡ old.as_listed)

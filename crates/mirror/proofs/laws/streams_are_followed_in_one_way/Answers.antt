use Rattle.mirror.specs.FollowerView.{stand_of}
use Rattle.mirror.proofs.Joining.{follows_more}
use Rattle.mirror.proofs.Ways.{stands_alone, gap_stops}
use Rattle.mirror.proofs.Lengths.{broken_told, rest_short}
use Rattle.mirror.proofs.laws.streams_are_followed_in_one_way.Goals as goal

pub returns-clause-joined : goal.returns-clause-joined
returns-clause-joined g c =
    let s = g.S.EawStore in
    λ old mid new first second one two. follows_more s.tells s.opens (stand_of s.view old) (stand_of s.view mid) first second one (stand_of s.view new) two

pub returns-clause-alike : goal.returns-clause-alike
returns-clause-alike g c =
    let s = g.S.EawStore in
    λ old one other piece a b. stands_alone s.tells (stand_of s.view old) (stand_of s.view one) (stand_of s.view other) piece a b

pub returns-clause-gap : goal.returns-clause-gap
returns-clause-gap g c =
    let s = g.S.EawStore in
    λ old new other piece expected got a stops. gap_stops s.tells (stand_of s.view old) (stand_of s.view new) (s.view other.store) piece expected got a stops

pub returns-clause-broken : goal.returns-clause-broken
returns-clause-broken g c =
    let s = g.S.EawStore in
    λ old new other piece bad a. broken_told s.tells (stand_of s.view old) (stand_of s.view new) (s.view other.store) piece a bad

pub returns-clause-short : goal.returns-clause-short
returns-clause-short g c =
    let s = g.S.EawStore in
    λ old new piece a. rest_short s.tells (stand_of s.view old) (stand_of s.view new) piece a

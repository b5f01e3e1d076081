use Rattle.mirror.specs.FollowerView.{stand_of}
use Rattle.mirror.proofs.Firsts.{has_first, leaves_first, has_all}
use Rattle.mirror.proofs.laws.a_follower_has_first_commits.Goals as goal

pub returns-clause-first : goal.returns-clause-first
returns-clause-first g c =
    let p = g.P.EawStore in
    let s = g.S.EawStore in
    λ old new sent one other bytes more told both is f. has_first p.tells (p.view old) (p.view new) sent (stand_of s.view one) both s.tells (stand_of s.view other) bytes more told is f

pub returns-clause-left : goal.returns-clause-left
returns-clause-left g c =
    let p = g.P.EawStore in
    let s = g.S.EawStore in
    λ old new sent one bytes more image both is l. leaves_first p.tells (p.view old) (p.view new) sent (stand_of s.view one) both s.opens bytes more image is l

pub returns-clause-all : goal.returns-clause-all
returns-clause-all g c =
    let p = g.P.EawStore in
    let s = g.S.EawStore in
    λ old new sent one other tell told mirrors up alive both f. has_all p.tells (p.view old) (p.view new) sent (stand_of s.view one) both s.tells (stand_of s.view other) tell told mirrors up alive f

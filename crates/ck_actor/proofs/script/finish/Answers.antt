use Rattle.std.proofs.Common.{◌≡◌, ◌≤◌, ◌<◌, ◌-◌, ℕ, suc, Some, List, length, get_or, refl, sym, ap, subst, ◌∙◌, arith}
use Rattle.std.specs.Prelude.{slice_get}
use Rattle.std.proofs.lemmas.Option.{slice_get_read, slice_get-get_or}
use Rattle.std.proofs.lemmas.List.Elements.{recursion_from_All}
use Rattle.ck_script.specs.declared.line.Line.{Line}
use Rattle.ck_script.specs.Limits.{IsWithinLimits}
use Rattle.ck_volume.specs.Volume.{origin_of}
use Rattle.ck_actor.specs.declared.actor.Actor.{Actor}
use Rattle.ck_actor.proofs.ActorLemmas.{each_at}
use Rattle.ck_actor.proofs.EndsLemmas.{stepped_from, way_from}
use Rattle.ck_actor.proofs.StepLemmas.{finish_begins, finish_ends, finish_goes, finish_smaller, from_high, from_low}
use Rattle.ck_actor.proofs.script.finish.Goals as goal

-- a line's actor has a number from 1 to 64
among : (lines : List Line) (at : ℕ) (line : Line) → IsWithinLimits lines → at < length lines → line ≡ get_or lines at line → (1 ≤ line.actor) × (line.actor ≤ 64)
among lines at line limits within is =
    each_at (λ (l : Line). (1 ≤ l.actor) × (l.actor ≤ 64)) lines at line (recursion_from_All (λ (l : Line). (1 ≤ l.actor) × (l.actor ≤ 64)) lines limits.actors) within is

there_in : (actors : List Actor) (place : ℕ) (default : Actor) → length actors ≡ 64 → place < 64 → slice_get actors place ≡ Some (get_or actors place default)
there_in actors place default many limit = slice_get-get_or actors place default (omega (arith, many, limit))

less_one : (n : ℕ) → 1 ≤ n → suc (n - 1) ≡ n
less_one n some = omega (arith, some)

within_limit : (n : ℕ) → 1 ≤ n → n ≤ 64 → n - 1 < 64
within_limit n some low = omega (arith, some, low)

pub overflow_sub-place : goal.overflow_sub-place
overflow_sub-place g c =
    let script = c.args.script.now in
    let line = c.index-lines-line.result in
    let is : line ≡ get_or script.calls c.args.line line = c.index-lines-line.is ∙ ap (λ (xs : List Line). get_or xs c.args.line line) c.items-lines.ensures in
    subst (λ (l : Line). 1 ≤ l.actor) c.index-lines-line.is (among script.calls c.args.line line script.within c.requires.within is).0

pub loop-alloc-init : goal.loop-alloc-init
loop-alloc-init g c =
    let script = c.args.script.now in
    let line = c.index-lines-line.result in
    let at = c.args.line in
    let is : line ≡ get_or script.calls at line = c.index-lines-line.is ∙ ap (λ (xs : List Line). get_or xs at line) c.items-lines.ensures in
    let own = among script.calls at line script.within c.requires.within is in
    let same : line ≡ get_or c.items-lines.result.now at line = c.index-lines-line.is in
    let place : ℕ = (get_or c.items-lines.result.now at line).actor - 1 in
    let place_is : suc place ≡ line.actor = ap (λ (l : Line). suc (l.actor - 1)) (sym same) ∙ less_one line.actor own.0 in
    let limit : place < 64 = subst (λ (l : Line). l.actor - 1 < 64) same (within_limit line.actor own.0 own.1) in
    record {
      way = finish_begins g.D.Disk.means (origin_of c.args.volume.now) (g.C.Clock.means c.args.clock.now) script.calls script.turns at place script.numbered line c.args.volume.now c.args.actors.now
          (slice_get_read script.calls (length script.calls) at line refl c.requires.within is) place_is limit c.requires.finished;
      clock = refl;
    }

pub bounds-actors-place : goal.bounds-actors-place
bounds-actors-place g c =
    let way = c.loop-alloc.invariant.way in
    let many = way.under_way.played.many in
    let limit = way.limit in
    subst (λ n. (get_or c.items-lines.result.now c.args.line c.index-lines-line.result).actor - 1 < n) (sym many) limit

pub take_own-requires-clause-within : goal.take_own-requires-clause-within
take_own-requires-clause-within g c = c.loop-alloc.invariant.way.limit

pub take_own-requires-clause-under_way : goal.take_own-requires-clause-under_way
take_own-requires-clause-under_way g c =
    let inv = c.loop-alloc.invariant in
    let way = inv.way in
    let volume = c.loop-alloc.volume in
    record {
      at = way.at;
      known = way.known;
      under_way = way_from g.D.Disk.means (origin_of c.args.volume.now) (origin_of volume) (g.C.Clock.means c.args.clock.now) (g.C.Clock.means c.loop-alloc.clock) c.args.script.now.calls volume c.loop-alloc.actors way.at way.known
          (sym way.under_way.origin_is) (sym inv.clock) way.under_way;
    }

pub loop-alloc-smaller : goal.loop-alloc-smaller
loop-alloc-smaller g c =
    let inv = c.loop-alloc.invariant in
    let way = inv.way in
    let script = c.args.script.now in
    let volume = c.loop-alloc.volume in
    let after = c.take_own.new.volume in
    let actors : List Actor = c.loop-alloc.actors in
    let place : ℕ = (get_or c.items-lines.result.now c.args.line c.index-lines-line.result).actor - 1 in
    let actor : Actor = get_or actors place c.index-actors-place.result in
    let there = there_in actors place c.index-actors-place.result way.under_way.played.many way.limit in
    let low = from_low actor.place.line c.args.line (sym c.is_left.ensures ∙ c.loop-alloc-test.true) in
    let stepped = stepped_from g.D.Disk.means (origin_of volume) (origin_of c.args.volume.now) (g.C.Clock.means c.loop-alloc.clock) (g.C.Clock.means c.args.clock.now) script.calls (suc place) way.at way.known volume after c.take_own.new.actors
    way.under_way.origin_is inv.clock
    (c.take_own.ensures.stepped way.at way.known
    (way_from g.D.Disk.means (origin_of c.args.volume.now) (origin_of volume) (g.C.Clock.means c.args.clock.now) (g.C.Clock.means c.loop-alloc.clock) script.calls volume actors way.at way.known (sym way.under_way.origin_is) (sym inv.clock) way.under_way)) in
    finish_smaller g.D.Disk.means (origin_of c.args.volume.now) (g.C.Clock.means c.args.clock.now) script.calls script.turns c.args.line place script.numbered volume actors actor there way low after c.take_own.new.actors stepped
    (λ next is. c.take_own.ensures.fewer actor next there is)

pub loop-alloc-preserved : goal.loop-alloc-preserved
loop-alloc-preserved g c =
    let inv = c.loop-alloc.invariant in
    let way = inv.way in
    let script = c.args.script.now in
    let volume = c.loop-alloc.volume in
    let after = c.take_own.new.volume in
    let actors : List Actor = c.loop-alloc.actors in
    let place : ℕ = (get_or c.items-lines.result.now c.args.line c.index-lines-line.result).actor - 1 in
    let actor : Actor = get_or actors place c.index-actors-place.result in
    let there = there_in actors place c.index-actors-place.result way.under_way.played.many way.limit in
    let low = from_low actor.place.line c.args.line (sym c.is_left.ensures ∙ c.loop-alloc-test.true) in
    let stepped = stepped_from g.D.Disk.means (origin_of volume) (origin_of c.args.volume.now) (g.C.Clock.means c.loop-alloc.clock) (g.C.Clock.means c.args.clock.now) script.calls (suc place) way.at way.known volume after c.take_own.new.actors
    way.under_way.origin_is inv.clock
    (c.take_own.ensures.stepped way.at way.known
    (way_from g.D.Disk.means (origin_of c.args.volume.now) (origin_of volume) (g.C.Clock.means c.args.clock.now) (g.C.Clock.means c.loop-alloc.clock) script.calls volume actors way.at way.known (sym way.under_way.origin_is) (sym inv.clock) way.under_way)) in
    record {
      way = finish_goes g.D.Disk.means (origin_of c.args.volume.now) (g.C.Clock.means c.args.clock.now) script.calls script.turns c.args.line place script.numbered volume actors actor there way low after c.take_own.new.actors stepped;
      clock = c.take_own.ensures.clock ∙ inv.clock;
    }

pub returns-clause-finished : goal.returns-clause-finished
returns-clause-finished g c =
    let way = c.loop-alloc.invariant.way in
    let script = c.args.script.now in
    let actors : List Actor = c.loop-alloc.actors in
    let place : ℕ = (get_or c.items-lines.result.now c.args.line c.index-lines-line.result).actor - 1 in
    let actor : Actor = get_or actors place c.index-actors-place.result in
    let there = there_in actors place c.index-actors-place.result way.under_way.played.many way.limit in
    let past = from_high actor.place.line c.args.line (sym c.is_left.ensures ∙ c.loop-alloc-test.false) in
    finish_ends g.D.Disk.means (origin_of c.args.volume.now) (g.C.Clock.means c.args.clock.now) script.calls script.turns c.args.line place script.numbered c.loop-alloc.volume actors actor there way past

use Rattle.std.proofs.Common.{◌≡◌, ◌++◌, length, take, drop}
use Rattle.conductor.specs.Hearing.{heard_views}
use Rattle.conductor.proofs.hearing.hear_views.Given as goal

abbrev pub invariant-loop-place : goal.invariant-loop-place
invariant-loop-place l = record {
  many : length l.told ≡ length l.views;
  heard : take l.place l.told ++ heard_views (drop l.place l.told) (drop l.place l.views) ≡ heard_views l.initial.told l.views;
}

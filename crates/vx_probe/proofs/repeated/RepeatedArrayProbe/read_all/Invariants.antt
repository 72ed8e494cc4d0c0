use Rattle.std.proofs.Common.{◌≡◌, ◌+◌, ◌*◌, ◌≤◌, map, take}
use Rattle.vx_column.specs.Columns.{point_cost, IsPlain}
use Rattle.vx_probe.specs.Probes.{read_at}
use Rattle.vx_probe.proofs.repeated.RepeatedArrayProbe.read_all.Given as goal

abbrev pub invariant-loop-index : goal.invariant-loop-index
invariant-loop-index g l = record {
  same : l.self ≡ l.initial.self;
  answered : l.answers.items ≡ map (read_at l.initial.self) (take l.index-index l.indices);
  rise : IsPlain l.initial.self → l.steps ≤ l.initial.steps + l.index-index * point_cost l.initial.self;
  monotone : l.initial.steps ≤ l.steps;
}

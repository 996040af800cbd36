-- The order of runners, and what a runner prints.
use Rattle.std.specs.Prelude.{ℕ, Bool, List, ◌++◌, int_lt, codes, decimal}
use Rattle.std.specs.Fmt.{signed_decimal}
use Rattle.keeper_cases.specs.declared.Runner.{Runner}

-- the faster comes first
abbrev pub faster : Runner → Runner → Bool
faster x y = int_lt x.time y.time

-- time:bib
abbrev pub runner_text : Runner → List ℕ
runner_text runner = signed_decimal runner.time ++ (codes ":" ++ decimal runner.bib)

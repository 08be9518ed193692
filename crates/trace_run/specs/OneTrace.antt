-- A script has one text, whatever slots its handles get.
use Rattle.std.specs.Prelude.{◌≡◌, ℕ, ◌+◌, List, ◌++◌}
use Rattle.script_lang.specs.declared.script.Script.{Script}
use Rattle.trace_run.specs.Traced.{IsTraced, IsTracedTo}

-- the first text is what the second begins with
abbrev pub Begins : List ℕ → List ℕ → Type 0
Begins front text = (rest : List ℕ) × (text ≡ front ++ rest)

-- Two tellings of all lines are one text, whatever key the headers and whatever slots the handles got in each. What is told of the first
-- lines, where memory ran out behind them, is a front of what is told of more lines and of all.
pub record HasOneText (script : Script) : Type 0 where
  pub whole : (text other : List ℕ) → IsTraced script text → IsTraced script other → other ≡ text
  pub front : (count : ℕ) (text other : List ℕ) → IsTracedTo count script text → IsTraced script other → Begins text other
  pub lines : (count more : ℕ) (text other : List ℕ) → IsTracedTo count script text → IsTracedTo (count + more) script other → Begins text other

-- A text has one first fault, or is a script.
use Rattle.std.proofs.Common.{◌≡◌, ℕ, ◌+◌, List, [], ◌∷◌, sym, ap, subst, inl, inr, ◌∙◌, arith}
use Rattle.line_text.specs.Lines.{lines_of}
use Rattle.omx_types.specs.declared.fault.Fault.{Fault as Faults}
use Rattle.omx_types.specs.declared.fault.Fault.TheVariants as faults
use Rattle.omx_types.specs.declared.fault.ScriptWhy.{ScriptWhy}
use Rattle.clock_core.specs.Running.{IsFaultIn}
use Rattle.clock_core.specs.Script.{AreGood, Begins, FaultsFrom, FaultsIn, IsFaulty, IsGoodLine, IsNoFault, Says}
use Rattle.clock_core.specs.declared.script.Said.{Said}
use Rattle.clock_core.specs.declared.script.Said.TheVariants.{Fault}

-- a line says one thing
pub one-saying : (line : List ℕ) (a b : Said) → Says line a → Says line b → a ≡ b
one-saying line a b (inl (text, is)) (inl (text', is')) = is ∙ sym is'
one-saying line a b (inl (text, is)) (inr (none, is')) = absurd (none text)
one-saying line a b (inr (none, is)) (inl (text, is')) = absurd (none text)
one-saying line a b (inr (none, is)) (inr (none', is')) = is ∙ sym is'

pub same-why : (a b : ScriptWhy) → Fault a ≡ Fault b → a ≡ b
same-why a b h = cc

pub good-no_fault : (line : List ℕ) (why : ScriptWhy) → IsGoodLine line → Says line (Fault why) → ⊥
good-no_fault line why (said, says, fine) fault = subst IsNoFault (one-saying line said (Fault why) says fault) fine

pub good-no_faults : (lines : List (List ℕ)) (number line : ℕ) (why : ScriptWhy) → AreGood lines → FaultsFrom number lines line why → ⊥
good-no_faults [] number line why good fault = fault
good-no_faults (first ∷ lines) number line why good (inl (fault, is)) = good-no_fault first why good.0 fault
good-no_faults (first ∷ lines) number line why good (inr (fine, later)) = good-no_faults lines (number + 1) line why good.1 later

pub one-fault_from : (lines : List (List ℕ)) (number one two : ℕ) (why other : ScriptWhy) → FaultsFrom number lines one why → FaultsFrom number lines two other → (one ≡ two) × (why ≡ other)
one-fault_from [] number one two why other first second = absurd first
one-fault_from (line ∷ lines) number one two why other (inl (fault, is)) (inl (fault', is')) = (is ∙ sym is', same-why why other (one-saying line (Fault why) (Fault other) fault fault'))
one-fault_from (line ∷ lines) number one two why other (inl (fault, is)) (inr (fine, later)) = absurd (good-no_fault line why fine fault)
one-fault_from (line ∷ lines) number one two why other (inr (fine, later)) (inl (fault, is)) = absurd (good-no_fault line other fine fault)
one-fault_from (line ∷ lines) number one two why other (inr (fine, later)) (inr (fine', later')) = one-fault_from lines (number + 1) one two why other later later'

pub one-fault_in : (lines : List (List ℕ)) (one two : ℕ) (why other : ScriptWhy) → FaultsIn lines one why → FaultsIn lines two other → (one ≡ two) × (why ≡ other)
one-fault_in [] one two why other (a, b) (c, d) = (a ∙ sym c, b ∙ sym d)
one-fault_in (line ∷ lines) one two why other (inl (n, a, b)) (inl (m, c, d)) = (a ∙ sym c, b ∙ sym d)
one-fault_in (line ∷ lines) one two why other (inl (n, a, b)) (inr (inl (text, w, c, d))) = absurd (n text)
one-fault_in (line ∷ lines) one two why other (inl (n, a, b)) (inr (inr (text, w, later))) = absurd (n text)
one-fault_in (line ∷ lines) one two why other (inr (inl (text, w, a, b))) (inl (m, c, d)) = absurd (m text)
one-fault_in (line ∷ lines) one two why other (inr (inl (text, w, a, b))) (inr (inl (t, v, c, d))) = (a ∙ sym c, b ∙ sym d)
one-fault_in (line ∷ lines) one two why other (inr (inl (text, w, a, b))) (inr (inr (t, v, later))) = absurd (w v)
one-fault_in (line ∷ lines) one two why other (inr (inr (text, w, later))) (inl (m, c, d)) = absurd (m text)
one-fault_in (line ∷ lines) one two why other (inr (inr (text, w, later))) (inr (inl (t, v, c, d))) = absurd (v w)
one-fault_in (line ∷ lines) one two why other (inr (inr (text, w, later))) (inr (inr (t, v, later'))) = one-fault_from lines 2 one two why other later later'

pub one-fault : (text : List ℕ) (one two : ℕ) (why other : ScriptWhy) → IsFaulty text one why → IsFaulty text two other → (one ≡ two) × (why ≡ other)
one-fault text one two why other (inl (long, a, b)) (inl (long', c, d)) = (a ∙ sym c, b ∙ sym d)
one-fault text one two why other (inl (long, a, b)) (inr (short, later)) = absurd (omega (arith, long, short))
one-fault text one two why other (inr (short, later)) (inl (long, a, b)) = absurd (omega (arith, long, short))
one-fault text one two why other (inr (short, later)) (inr (short', later')) = one-fault_in (lines_of text) one two why other later later'

-- a script has none
pub script-no_fault : (text : List ℕ) (lines : List (List ℕ)) (line : ℕ) (why : ScriptWhy) → Begins text lines → AreGood lines → IsFaulty text line why → ⊥
script-no_fault text lines line why begun good (inl (long, a, b)) = omega (arith, long, begun.short)
script-no_fault text lines line why begun good (inr (short, faulty)) = here (subst (λ (ls : List (List ℕ)). FaultsIn ls line why) begun.parted faulty)
  where
    here : FaultsIn (begun.first ∷ lines) line why → ⊥
    here (inl (n, a, b)) = n begun.is_text
    here (inr (inl (text', w, a, b))) = w begun.is_first
    here (inr (inr (text', w, later))) = good-no_faults lines 2 line why good later

pub fault-is : (fault : Faults) (text : List ℕ) (line : ℕ) (why : ScriptWhy) → IsFaultIn (IsFaulty text) fault → IsFaulty text line why → fault ≡ faults.Script line why
fault-is (faults.Script one other) text line why found faulty =
    let same = one-fault text one line other why found faulty in
    ap (λ (n : ℕ). faults.Script n other) same.0 ∙ ap (λ (w : ScriptWhy). faults.Script line w) same.1
fault-is other text line why found faulty = absurd found

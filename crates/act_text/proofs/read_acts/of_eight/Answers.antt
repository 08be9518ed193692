use Rattle.std.proofs.Common.{rules, ◌≡◌, ℕ, List, [], ◌∷◌, ◌++◌, Option, Some, None, codes, ap, refl, sym, ◌∙◌}
use Rattle.std.specs.Prelude.{IfSome}
use Rattle.omx_types.specs.declared.format.Format.{Format}
use Rattle.line_text.specs.ReadNumbers.{small_number}
use Rattle.act_text.specs.Acts.{act_words, definition_words, format_words}
use Rattle.act_text.specs.Reading.{port_of}
use Rattle.act_text.specs.ReadActs.{of_definition}
use Rattle.act_text.specs.declared.act.TextAct.{TextAct}
use Rattle.act_text.specs.declared.name.PortName.{PortName}
use Rattle.act_text.proofs.read_acts.of_eight.Goals as goal

-- a definition without a format is none
no_format : (port : Option PortName) (count size : Option ℕ) → of_definition port None count size ≡ None
no_format None count size = refl
no_format (Some port) count size = refl

definition_said : (r : Option TextAct) (format : Option Format) (verb port what kind rate channels count size : List ℕ) → verb ≡ codes "set" → what ≡ codes "port" → (format ≡ None → r ≡ None) → IfSome format (λ f. kind ∷ rate ∷ channels ∷ [] ≡ format_words f)
    → IfSome r (λ act. IfSome format (λ f. definition_words port f count size ≡ act_words act)) → IfSome r (λ act. verb ∷ port ∷ what ∷ kind ∷ rate ∷ channels ∷ count ∷ size ∷ [] ≡ act_words act)
definition_said None format verb port what kind rate channels count size v w n f d = tt
definition_said (Some act) None verb port what kind rate channels count size v w n f d = let e = n refl in absurd cc
definition_said (Some act) (Some format) verb port what kind rate channels count size v w n f d =
    rw (v, w) (ap (λ (ws : List (List ℕ)). codes "set" ∷ port ∷ codes "port" ∷ (ws ++ count ∷ size ∷ [])) f ∙ d)

pub returns-clause-some : goal.returns-clause-some
returns-clause-some c =
    let a = c.args in
    let v : a.verb.now ≡ codes "set" = search rules in
    let w : a.what.now ≡ codes "port" = search rules in
    definition_said c.of_definition.result c.format_in.result a.verb.now a.port.now a.what.now a.kind.now a.rate.now a.channels.now a.count.now a.size.now v w
    (λ e. c.of_definition.ensures.is ∙ (ap (λ (f : Option Format). of_definition (port_of a.port.now) f (small_number a.count.now) (small_number a.size.now)) e ∙ no_format (port_of a.port.now) (small_number a.count.now) (small_number a.size.now)))
    c.format_in.ensures.some c.of_definition.ensures.some

-- The names that a line uses and introduces, and those that earlier lines introduced.
use Rattle.std.specs.Prelude.{ℕ, Bool, true, not, ◌&&◌, List, [], ◌∷◌, ◌++◌}
use Rattle.std.specs.List.{flat_map, list_any}
use Rattle.std.specs.Str.{bytes_eq}
use Rattle.act_text.specs.declared.act.TextAct.{TextAct}
use Rattle.act_text.specs.declared.act.TextAct.TheVariants as acts
use Rattle.script_lang.specs.declared.form.TraceForm.{TraceForm}
use Rattle.script_lang.specs.declared.form.TraceForm.TheVariants.{Act, Get, Alloc, UseBuf, FreeBuf, Etb, Ftb}
use Rattle.script_lang.specs.declared.form.TraceLine.{TraceLine}

-- the components that an act names
abbrev pub act_components : TextAct → List (List ℕ)
act_components (acts.Free component) = component ∷ []
act_components (acts.State component) = component ∷ []
act_components (acts.Port port) = port.component ∷ []
act_components (acts.SetPort port format count size) = port.component ∷ []
act_components (acts.SetSupplier port supplier) = port.component ∷ []
act_components (acts.SetPriority component priority) = component ∷ []
act_components (acts.Gain component gain) = component ∷ []
act_components (acts.Weight port weight) = port.component ∷ []
act_components (acts.Tunnel first second) = first.component ∷ second.component ∷ []
act_components (acts.DropTunnel first second) = first.component ∷ second.component ∷ []
act_components (acts.SendState component state) = component ∷ []
act_components (acts.SendFlush component ports) = component ∷ []
act_components (acts.SendDisable component ports) = component ∷ []
act_components (acts.SendEnable component ports) = component ∷ []
act_components (acts.SendMark component port target value) = component ∷ target ∷ []
act_components (acts.Run component) = component ∷ []
act_components (acts.Claim component) = component ∷ []
act_components (acts.Finish component) = component ∷ []
act_components (acts.Supply port) = port.component ∷ []
act_components (acts.Release port) = port.component ∷ []
act_components (acts.Over port) = port.component ∷ []
act_components (acts.Back port) = port.component ∷ []
act_components (acts.Take component) = component ∷ []
act_components (acts.End component) = component ∷ []
act_components acts.Grant = []
act_components acts.Preempt = []

-- the names of components and of headers that lines introduced
pub record Introduced : Type 0 where
  pub components : List (List ℕ)
  pub headers : List (List ℕ)

-- the component that a line introduces, if it does
abbrev pub new_components : TraceForm → List (List ℕ)
new_components (Get component kind) = component ∷ []
new_components other = []

-- the header that it introduces, if it does
abbrev pub new_headers : TraceForm → List (List ℕ)
new_headers (Alloc header port) = header ∷ []
new_headers (UseBuf header port length) = header ∷ []
new_headers other = []

abbrev pub introduced : List TraceLine → Introduced
introduced lines = record {
  components = flat_map (λ (line : TraceLine). new_components line.form) lines;
  headers = flat_map (λ (line : TraceLine). new_headers line.form) lines;
}

-- with the names of one line more
abbrev pub with_names : Introduced → TraceForm → Introduced
with_names before form = record { components = before.components ++ new_components form; headers = before.headers ++ new_headers form }

abbrev pub has_name : List (List ℕ) → List ℕ → Bool
has_name names name = list_any (λ other. bytes_eq other name) names

abbrev pub has_component : Introduced → List ℕ → Bool
has_component before name = has_name before.components name

abbrev pub has_header : Introduced → List ℕ → Bool
has_header before name = has_name before.headers name

abbrev pub has_components : Introduced → List (List ℕ) → Bool
has_components before [] = true
has_components before (name ∷ names) = has_component before name && has_components before names

-- each name that the line uses is introduced by an earlier one
abbrev pub is_known : Introduced → TraceForm → Bool
is_known before (Act act) = has_components before (act_components act)
is_known before (Get component kind) = true
is_known before (Alloc header port) = has_component before port.component
is_known before (UseBuf header port length) = has_component before port.component
is_known before (FreeBuf header port) = has_header before header && has_component before port.component
is_known before (Etb header port bytes eos) = has_header before header && has_component before port.component
is_known before (Ftb header port) = has_header before header && has_component before port.component

-- the name that the line introduces is introduced by no earlier one
abbrev pub is_new : Introduced → TraceForm → Bool
is_new before (Get component kind) = not (has_component before component)
is_new before (Alloc header port) = not (has_header before header)
is_new before (UseBuf header port length) = not (has_header before header)
is_new before other = true

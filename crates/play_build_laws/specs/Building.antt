-- All acts of an assembly, each answered that it was done, where its components get these handles.
use Rattle.std.specs.Prelude.{ℕ, zero, suc, ◌+◌, Bool, true, false, List, [], ◌∷◌, ◌++◌, slice_index_or, Option, None, Some, Ok}
use Rattle.omx_types.specs.declared.handle.Handle.{Handle}
use Rattle.omx_types.specs.declared.kind.Kind.{Kind}
use Rattle.omx_types.specs.declared.param.Supplier.TheVariants.{Input}
use Rattle.il_machine.specs.Acts.{Act, Reply}
use Rattle.il_machine.specs.Acts as acts
use Rattle.il_machine.specs.Files.{Offered}
use Rattle.play_build_laws.specs.Assembly.{Assembly, component_at}
use Rattle.play_build_laws.specs.Stages.{factor_key, factor_value, id_at, name_of, port_key, port_value}

abbrev pub no_handle : Handle
no_handle = record { slot = 0; generation = 0 }

-- the handle of the component at that end
abbrev pub handle_at : Assembly → List Handle → Bool → ℕ → Handle
handle_at s handles side l = slice_index_or handles (component_at s side l) no_handle

-- each component from a place on is made
abbrev pub makings : Assembly → ℕ → List Handle → List (Act × Reply)
makings s place [] = []
makings s place (h ∷ handles) = (acts.GetHandle (name_of (s.kind place)), acts.Got (Ok h)) ∷ makings s (place + 1) handles

-- the factors of one component, from one on
abbrev pub factorings_of : Kind → Handle → ℕ → List ℕ → List (Act × Reply)
factorings_of kind h i [] = []
factorings_of kind h i (factor ∷ factors) = (acts.SetConfig h (factor_key kind i) (factor_value kind factor), acts.Plain (Ok tt)) ∷ factorings_of kind h (i + 1) factors

abbrev pub factorings : Assembly → ℕ → List Handle → List (Act × Reply)
factorings s place [] = []
factorings s place (h ∷ handles) = factorings_of (s.kind place) h 0 (s.factors place) ++ factorings s (place + 1) handles

abbrev pub setting_act : Assembly → List Handle → Bool → ℕ → Act × Reply
setting_act s handles side l = (acts.SetParameter (handle_at s handles side l) (port_key (s.end side l).port) (port_value s side l), acts.Plain (Ok tt))

-- the ends of so many links from one on
abbrev pub settings_of : Assembly → List Handle → ℕ → ℕ → List (Act × Reply)
settings_of s handles l zero = []
settings_of s handles l (suc links) = setting_act s handles false l ∷ setting_act s handles true l ∷ settings_of s handles (l + 1) links

abbrev pub filing_of : Handle → Option Offered → List (Act × Reply)
filing_of h None = []
filing_of h (Some file) = (acts.Attach h file, acts.Plain (Ok tt)) ∷ []

abbrev pub filings : Assembly → ℕ → List Handle → List (Act × Reply)
filings s place [] = []
filings s place (h ∷ handles) = filing_of h (s.file place) ++ filings s (place + 1) handles

abbrev pub joining_act : Assembly → List Handle → ℕ → Act × Reply
joining_act s handles l = (acts.SetupTunnel (id_at s false l (handle_at s handles false l)) (id_at s true l (handle_at s handles true l)), acts.Joined (Ok Input))

abbrev pub joinings : Assembly → List Handle → ℕ → ℕ → List (Act × Reply)
joinings s handles l zero = []
joinings s handles l (suc links) = joining_act s handles l ∷ joinings s handles (l + 1) links

abbrev pub building : Assembly → List Handle → List (Act × Reply)
building s handles = makings s 0 handles ++ factorings s 0 handles ++ settings_of s handles 0 s.links ++ filings s 0 handles ++ joinings s handles 0 s.links

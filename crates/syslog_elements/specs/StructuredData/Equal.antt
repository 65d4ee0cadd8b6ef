-- When two elements are equal: their ids are the same text, and they have the same parameters, each as often, in any
-- order (RFC 5424 section 6.3.3 gives their order no meaning; own).
use Rattle.std.specs.Prelude.{◌≡◌, ℕ, Bool, List, ◌++◌, ◌&&◌, nat_eq, count_by, IsPermutation}
use Rattle.std.specs.List.{list_all}
use Rattle.syslog_text.specs.Pieces.{Class.Text, View.text_eq}
use Rattle.syslog_elements.specs.StructuredData.Element.{ElementValue}

-- whether two parameters have the same name and the same value
abbrev pub param_eq : Text × Text → Text × Text → Bool
param_eq p q = text_eq p.0 q.0 && text_eq p.1 q.1

-- how often a parameter is in a list
abbrev pub param_count : Text × Text → List (Text × Text) → ℕ
param_count p ps = count_by (λ q. param_eq p q) ps

-- whether each of these parameters is equally often in two lists
abbrev pub counts_agree : (these ps qs : List (Text × Text)) → Bool
counts_agree these ps qs = list_all (λ p. nat_eq (param_count p ps) (param_count p qs)) these

-- whether each parameter of either list is equally often in both
abbrev pub same_params : List (Text × Text) → List (Text × Text) → Bool
same_params ps qs = counts_agree (ps ++ qs) ps qs

-- whether the ids are the same text, and the parameters the same in some order
abbrev pub element_eq : ElementValue → ElementValue → Bool
element_eq a b = text_eq a.id b.id && same_params a.params b.params

-- one id, and the same parameters in some order
abbrev pub IsSameInSomeOrder : ElementValue → ElementValue → Type 0
IsSameInSomeOrder a b = (a.id ≡ b.id) × IsPermutation a.params b.params

-- Entries in the code and their values.
use Rattle.std.proofs.Common.{◌≡◌, ℕ, List, map, ◌+◌, ◌<◌, ◌&&◌, not, length, drop, get_or, sum_by, int_eq, ℤ}
use Rattle.std.proofs.Common.{pos}
use Rattle.std.proofs.lemmas.List.Folds.{fold-map, list_all-map}
use Rattle.nv_file.specs.File.{may_attach, is_cntlid, differ}
use Rattle.nv_file.proofs.Words.{controller_entry_view, ControllerEntry, ControllerValue, drop_more, list_all}
use Rattle.nv_file.proofs.Words.{list_any, list_any-map, namespace_entry_view, NamespaceEntry, NamespaceValue}
use Rattle.nv_file.proofs.CheckLaws.{faults}

-- the sum of all capacities is the same for entries in the code and for their values
pub capacities : (ns : List NamespaceEntry)
    → sum_by (λ m. m.namespace.capacity) (map namespace_entry_view ns) ≡ sum_by (λ m. m.namespace.capacity) ns
capacities ns = fold-map (λ (a : ℕ) (m : NamespaceValue). a + m.namespace.capacity) namespace_entry_view 0 ns

pub ruleset file_laws = (faults, capacities)

-- whether a controller has an identifier is the same for entries in the code and for their values
one_cntlid : (cs : List ControllerEntry) (z : ℤ)
    → is_cntlid (map controller_entry_view cs) z ≡ list_any (λ c. int_eq (pos c.identity.cntlid) z) cs
one_cntlid cs z = list_any-map (λ (c : ControllerValue). int_eq (pos c.identity.cntlid) z) controller_entry_view cs

-- whether each identifier belongs to a controller is the same for entries in the code and for their values
pub all_cntlids : (cs : List ControllerEntry) (zs : List ℤ)
    → list_all (is_cntlid (map controller_entry_view cs)) zs ≡ list_all
    (λ z. list_any (λ c. int_eq (pos c.identity.cntlid) z) cs) zs
all_cntlids cs zs = λ i. list_all (λ z. one_cntlid cs z i) zs

-- numbers from index i on differ if number i isn't among the later ones and these differ
pub differ_at : (zs : List ℤ) (i : ℕ) (d : ℤ) → i < length zs
    → differ (drop i zs) ≡ (not (list_any (λ y. int_eq y (get_or zs i d)) (drop (i + 1) zs)) && differ
    (drop (i + 1) zs))
differ_at zs i d h = rw (drop_more zs i d h)

-- whether all namespaces may be attached is the same for entries in the code and for their values
pub all_attach : (cs : List ControllerValue) (ns : List NamespaceEntry)
    → list_all (may_attach cs) (map namespace_entry_view ns) ≡ list_all
    (λ n. may_attach cs (namespace_entry_view n)) ns
all_attach cs ns = list_all-map (may_attach cs) namespace_entry_view ns

-- The sum of the capacities of a file's namespaces.
use Rattle.std.proofs.Common.{◌≡◌, ◌≢◌, ◌∙◌, zero, suc, ◌+◌, List, [], ◌∷◌, get_or, None, sym, arith}
use Rattle.std.specs.FinMap as map_of
use Rattle.nv_subsystem.proofs.Words.{All, AllPairs, fold, get_of_insert, Namespaces, NamespaceValue, ne_eqb, sum_by}
use Rattle.nv_subsystem.proofs.Words.{sum_by-cons, used, used-insert, with_namespace}

-- adding the namespaces of a file, whose NSIDs differ and are new, uses their capacities
pub used-all : (m : Namespaces) (ns : List NamespaceValue) → AllPairs (λ a b. a.nsid ≢ b.nsid) ns
    → All (λ n. map_of.get m n.nsid ≡ None) ns → used (fold with_namespace m ns) ≡ used m + sum_by
    (λ n. n.namespace.capacity) ns
used-all m [] pairs new = omega arith
used-all m (n ∷ ns) pairs new =
    let here : map_of.get m n.nsid ≡ None = new zero n (omega arith) in
    let rest = used-all (with_namespace m n) ns (λ i j d a b. pairs (suc i) (suc j) d (omega arith) (omega arith))
    (λ j d b. get_of_insert m n.nsid n.namespace (get_or ns j d).nsid
    ∙ rw (ne_eqb (get_or ns j d).nsid n.nsid (λ e. pairs zero (suc j) d (omega arith)
    (omega arith) (sym e))) (new (suc j) d (omega arith))) in
    omega (arith, rest, used-insert m n.nsid n.namespace here, sum_by-cons (λ n. n.namespace.capacity) n ns)

-- A list of edges with one more or less: where its place is known, the list is the set after it.
use Rattle.std.proofs.Common.{◌≡◌, ℕ, true, sym, ◌∙◌, subst}
use Rattle.std.specs.List.{insert as inserted, remove}
use Rattle.edges.specs.declared.edges.Edge.{Edge}
use Rattle.edges.specs.Edges.{is_edge, vault_edge}
use Rattle.edge_sets.specs.EdgeSets.{Edges, Ascending, all_vault, all_edges, Found, Absent, insert, delete}
use Rattle.edge_sets.proofs.Ascents.{insert_ascending, delete_ascending}
use Rattle.edge_sets.proofs.Members.{vault_insert, vault_delete, edge_insert, edge_delete}

module _ (e : Edge) (s t : Edges) (i : ℕ) where
  module _ (a : Absent e s i) (is : t ≡ inserted s i e) where
    pub entered : t ≡ insert e s
    entered = is ∙ sym a.into

    pub entered_ascends : Ascending s → Ascending t
    entered_ascends up = subst Ascending (sym entered) (insert_ascending e s up)

    pub entered_vault : vault_edge e ≡ true → all_vault s ≡ true → all_vault t ≡ true
    entered_vault v all = subst (λ (u : Edges). all_vault u ≡ true) (sym entered) (vault_insert e s v all)

    pub entered_edges : is_edge e ≡ true → all_edges s ≡ true → all_edges t ≡ true
    entered_edges v all = subst (λ (u : Edges). all_edges u ≡ true) (sym entered) (edge_insert e s v all)

  module _ (f : Found e s i) (is : t ≡ remove s i) where
    pub struck : t ≡ delete e s
    struck = is ∙ sym f.out

    pub struck_ascends : Ascending s → Ascending t
    struck_ascends up = subst Ascending (sym struck) (delete_ascending e s up)

    pub struck_vault : all_vault s ≡ true → all_vault t ≡ true
    struck_vault all = subst (λ (u : Edges). all_vault u ≡ true) (sym struck) (vault_delete e s all)

    pub struck_edges : all_edges s ≡ true → all_edges t ≡ true
    struck_edges all = subst (λ (u : Edges). all_edges u ≡ true) (sym struck) (edge_delete e s all)

-- The laws of sets of edges.
use Rattle.std.proofs.Common.{◌≡◌, Bool, true, false, not, ◌≢◌, ◌⊎◌, sym, refl, ◌∙◌, inl, inr}
use Rattle.std.proofs.lemmas.Bool.{and_from, false≢true}
use Rattle.edges.specs.declared.edges.Edge.{Edge}
use Rattle.edges.specs.Edges.{same}
use Rattle.edge_sets.specs.EdgeSets.{has, insert, delete, ◌∈◌}
use Rattle.edge_sets.specs.SetLaws.{InsertionAdds, DeletionTakes, MembersDecide, EdgeSetsHold}
use Rattle.edge_sets.proofs.Order.{same_equal}
use Rattle.edge_sets.proofs.Members.{insert_new, insert_old, insert_cases, has_delete, delete_old, delete_gone, length_insert}
use Rattle.edge_sets.proofs.Ascents.{insert_ascending, delete_ascending, length_delete, ascending_unique}

insertion_adds : InsertionAdds
insertion_adds e s h = (insert_ascending e s h, λ x. (there x, back x), length_insert e s)
  where
    there : (x : Edge) → x ∈ insert e s → (x ≡ e) ⊎ (x ∈ s)
    there x k = turn (insert_cases e s x k)
      where
        turn : (e ≡ x) ⊎ (x ∈ s) → (x ≡ e) ⊎ (x ∈ s)
        turn (inl p) = inl (sym p)
        turn (inr p) = inr p

    back : (x : Edge) → (x ≡ e) ⊎ (x ∈ s) → x ∈ insert e s
    back x (inl p) = rw p (insert_new e s)
    back x (inr p) = insert_old e s x p

deletion_takes : DeletionTakes
deletion_takes e s h = (delete_ascending e s h, λ x. (there x, back x), length_delete e s h)
  where
    there : (x : Edge) → x ∈ delete e s → (x ≢ e) × (x ∈ s)
    there x k = (λ p. true≢ (rw p at k), delete_old e s x k)
      where
        true≢ : e ∈ delete e s → ⊥
        true≢ q = let z : false ≡ true = sym (delete_gone e s) ∙ q in false≢true z

    back : (x : Edge) → (x ≢ e) × (x ∈ s) → x ∈ delete e s
    back x p = has_delete e s x ∙ and_from (not (same e x)) (has s x) (differs (same e x) refl) p.1
      where
        differs : (b : Bool) → same e x ≡ b → not b ≡ true
        differs true q = absurd (p.0 (sym (same_equal e x q)))
        differs false q = refl

members_decide : MembersDecide
members_decide s t h k m = ascending_unique s t h k (λ x. (m x).0) (λ x. (m x).1)

pub edge_sets_hold : EdgeSetsHold
edge_sets_hold = (insertion_adds, deletion_takes, members_decide)

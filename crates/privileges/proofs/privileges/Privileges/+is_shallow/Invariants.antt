use Rattle.privileges.proofs.privileges.Privileges.+is_shallow.Given as goal

-- so many levels of nesting are left
abbrev pub decreases-is_shallow : goal.decreases-is_shallow
decreases-is_shallow l = l.depth

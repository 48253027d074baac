use Rattle.branch_tree.proofs.tallies.keep.Goals as goal

pub keep_front-kept-requires : goal.keep_front-kept-requires
keep_front-kept-requires c = rw c.deref_mut.ensures.value c.requires

-- Forms of the code, which private contracts and the invariant of a private list alone cite: strips
-- by totals along their gap, few prices by their places in a period, and the parts that
-- alternatives name.
pub mod Strided
pub mod Few
pub mod Folded
pub mod Named

mod TextLemmas
mod MarkupLemmas
mod PageLemmas
mod SizeLemmas
mod EndLemmas

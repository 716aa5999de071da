mod ThreadTexts
mod WordLemmas
mod ConsoleLemmas
mod ListingLemmas

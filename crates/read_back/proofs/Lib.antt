mod Words
mod Tables
mod Spelt
mod Back
